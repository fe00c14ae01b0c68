use Rattle.std.proofs.Common.{refl, subst}
use Rattle.std.specs.Arc.{arc_value}
use Rattle.cq_endpoint.specs.Endpoints.{EndpointFacts, endpoint_facts}
use Rattle.cq_endpoint.specs.Meetings.{Exchanges}
use Rattle.cq_endpoint.proofs.Hearings.{exchanges}
use Rattle.cq_endpoint.proofs.endpoint.Endpoint.exchange.Goals as goal

pub returns-clause-exchanged : goal.returns-clause-exchanged
returns-clause-exchanged c =
    let own = c.self.inside in
    let new : EndpointFacts = endpoint_facts (arc_value own.queue) c.meet.new.self c.meet-2.new.self own.parent in
    subst (λ (e : EndpointFacts). Exchanges c.args.note.now c.meet-2.new.other e new) c.self.view_is
    (exchanges c.args.note.now c.meet.new.note c.meet-2.new.other
    (endpoint_facts (arc_value own.queue) own.work own.tailer own.parent) new refl refl c.meet.ensures.met
    c.meet-2.ensures.stays c.meet-2.ensures.met)
