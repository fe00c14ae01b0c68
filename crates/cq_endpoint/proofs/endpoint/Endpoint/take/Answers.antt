use Rattle.std.specs.Arc.{arc_value}
use Rattle.std.proofs.Common.{[], IfErr, IfOk, subst}
use Rattle.std.proofs.lemmas.Result.{IfOk-weaker}
use Rattle.cq_endpoint.specs.Endpoints.{EndpointFacts}
use Rattle.cq_endpoint.specs.Reads.{OfTake, TakeRefused, TakeSays, reader, taken_outcome}
use Rattle.cq_endpoint.proofs.Readings.{reads_on, take_refused}
use Rattle.cq_tail.specs.declared.answers.Take.TheVariants.{NotYet}
use Rattle.cq_endpoint.proofs.endpoint.Endpoint.take.Goals as goal

pub returns-in-NotYet-clause-ok : goal.returns-in-NotYet-clause-ok
returns-in-NotYet-clause-ok c =
    let own = c.self.inside in
    let new = c.take_again.new.tailer in
    subst (λ (e : EndpointFacts). IfOk c.take_again.result (λ x. TakeSays e.queue e.tailer new c.args.name.now x))
    c.self.view_is
    (IfOk-weaker c.take_again.result _ _
    (λ x after. reads_on (λ q t u f. OfTake q c.args.name.now t u f) NotYet (arc_value own.queue) c.deref.result.now
    c.deref-in-NotYet.result.now (reader own.tailer []) (reader c.take.new.self []) (reader new [])
    c.in_ok-found.found (taken_outcome x) c.deref.ensures c.deref-in-NotYet.ensures c.in-NotYet.is
    c.in_ok-found.ensures.ok after) c.take_again.ensures.ok)

pub returns-in-NotYet-clause-err : goal.returns-in-NotYet-clause-err
returns-in-NotYet-clause-err c =
    let own = c.self.inside in
    let new = c.take_again.new.tailer in
    subst (λ (e : EndpointFacts). IfErr c.take_again.result (λ x. TakeRefused e.queue e.tailer new c.args.name.now x))
    c.self.view_is
    (take_refused (arc_value own.queue) c.deref.result.now c.deref-in-NotYet.result.now own.tailer c.take.new.self new
    c.args.name.now c.in_ok-found.found c.take_again.result c.deref.ensures c.deref-in-NotYet.ensures c.in-NotYet.is
    c.in_ok-found.ensures.ok c.take_again.ensures.err)
