use Rattle.std.proofs.Common.{ap}
use Rattle.cq_kept_calls.specs.Openings.{OpensCalled}
use Rattle.cq_kept_calls.specs.declared.opening.Called.{Called}
use Rattle.cq_saved.specs.Saved.{CanOpen, SavedFacts}
use Rattle.linnetshelf.specs.Keeps.{HandsOutBoth, KeepsQueue, Pair}
use Rattle.linnetshelf.specs.declared.status.Status.{Status}
use Rattle.linnetshelf.specs.declared.status.Status.TheVariants as status
use Rattle.linnetshelf.proofs.keeping.keep.Goals as goal

handed : (saved : SavedFacts) (called : Called) (old new : Pair) (how : Status) → ¬ ¬ CanOpen saved
    → OpensCalled saved.settings saved.contents called → HandsOutBoth called old new how → KeepsQueue saved old new how
handed saved called old new status.Done can opened both = record {
  can = can;
  called = called;
  opened = opened;
  endpoint_is = ap (λ (pair : Pair). pair.0) both;
  keeper_is = ap (λ (pair : Pair). pair.1) both;
}
handed saved called old new status.OutOfMemory can opened both = both
handed saved called old new _ can opened both = absurd both

pub returns-in-Ok : goal.returns-in-Ok
returns-in-Ok c = handed c.args.saved.now c.in-Ok.called (c.args.endpoint.now.held, c.args.keeper.now.held)
    (c.hand_out_both.new.endpoint.held, c.hand_out_both.new.keeper.held) c.hand_out_both.result
    (λ no. let e = c.in-Ok.ensures.only no in cc) c.in-Ok.ensures.opened c.hand_out_both.ensures
