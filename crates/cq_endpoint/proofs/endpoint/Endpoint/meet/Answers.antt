use Rattle.std.proofs.Common.{refl, subst}
use Rattle.std.specs.Arc.{arc_value}
use Rattle.cq_endpoint.specs.Endpoints.{EndpointFacts, endpoint_facts}
use Rattle.cq_endpoint.specs.Meetings.{EndpointsMet}
use Rattle.cq_endpoint.proofs.Hearings.{endpoints_met}
use Rattle.cq_endpoint.proofs.endpoint.Endpoint.meet.Goals as goal

pub returns : goal.returns
returns c =
    let own = c.self.inside in
    let first : EndpointFacts = endpoint_facts (arc_value own.queue) own.work own.tailer own.parent in
    let parted : EndpointFacts = endpoint_facts (arc_value own.queue) own.work own.tailer c.split-note.new.caller in
    subst (λ (e : EndpointFacts). EndpointsMet e c.args.other.now c.exchange-3.new.self c.exchange-4.new.self)
    c.self.view_is
    (endpoints_met c.split-note.result c.exchange.new.note c.exchange-2.new.note c.exchange-3.new.note
    c.exchange-4.new.note parted c.args.other.now c.exchange.new.self c.exchange-2.new.self c.exchange-3.new.self
    c.exchange-4.new.self c.exchange.ensures.exchanged c.exchange-2.ensures.exchanged c.exchange-3.ensures.exchanged
    c.exchange-4.ensures.exchanged first refl c.split-note.ensures.parent)
