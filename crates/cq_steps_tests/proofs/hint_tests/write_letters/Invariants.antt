use Rattle.std.proofs.Common.{◌≡◌, None}
use Rattle.cq_shown.specs.Plans.{settings_in}
use Rattle.cq_walks.specs.Trails.{IsTrail}
use Rattle.cq_words.specs.Values.{IsOf}
use Rattle.cq_steps_tests.proofs.hint_tests.write_letters.Given as goal

abbrev pub invariant-loop-letter : goal.invariant-loop-letter
invariant-loop-letter l = record {
  of : IsOf l.fn.queue l.caller;
  idle : l.caller.view.claim ≡ None;
  trail : IsTrail (settings_in l.fn.queue.plan) l.caller.view l.trail;
}
