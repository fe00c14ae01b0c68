use Rattle.std.proofs.Common.{◌≡◌, Ok, arith, length, refl, slice_index, subst, sym, take}
use Rattle.cq_endpoint.specs.Endpoints.{EndpointFacts}
use Rattle.cq_endpoint.specs.Works.{Appends}
use Rattle.linnetshelf.specs.Many.{AppendsFront, AppendsMany, InTurn, appending}
use Rattle.linnetshelf.specs.declared.many.Appended.{Appended}
use Rattle.linnetshelf.proofs.Turns.{appends_more, changes_work}
use Rattle.linnetshelf.proofs.appending_many.append_many.Goals as goal

pub loop-count-preserved : goal.loop-count-preserved
loop-count-preserved c = record {
  appended = appends_more c.args.endpoint.now.queue c.args.moment (appending c.args.endpoint.now.work c.args.bytes.now 0)
      c.args.lengths.now c.loop-count.count c.loop-count.endpoint.work c.append_front.new.endpoint.work
      c.loop-count.rest.now c.loop-count.last c.in-Ok.index c.loop-count-test.true c.loop-count.invariant.appended
      c.in-Ok.ensures.within
      (subst (λ (e : EndpointFacts). Appends e.queue c.loop-count.endpoint.work c.args.moment
      (take (slice_index c.args.lengths.now c.loop-count.count) c.loop-count.rest.now) c.append_front.new.endpoint.work
      (Ok c.in-Ok.index)) c.loop-count.invariant.stays c.in-Ok.ensures.ok);
  stays = changes_work c.args.endpoint.now c.loop-count.endpoint c.append_front.new.endpoint c.loop-count.invariant.stays
      c.append_front.ensures.rest;
}

pub returns-clause-says : goal.returns-clause-says
returns-clause-says c =
    let all : c.loop-count.count ≡ length c.args.lengths.now = omega arith in
    let at = appending c.loop-count.endpoint.work c.loop-count.rest.now c.loop-count.last in
    subst (λ (said : Appended). AppendsMany c.args.endpoint.now.queue c.args.endpoint.now.work c.args.moment c.args.bytes.now
    c.args.lengths.now c.loop-count.endpoint.work said) (sym c.new-2.ensures) (record {
      at = at;
      appended = subst (λ k. InTurn (AppendsFront c.args.endpoint.now.queue c.args.moment)
          (appending c.args.endpoint.now.work c.args.bytes.now 0) (take k c.args.lengths.now) at) all
          c.loop-count.invariant.appended;
      last = refl;
      no_more = (refl, refl);
    })
