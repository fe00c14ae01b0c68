use Rattle.cq_words.specs.Values.{IsOf}
use Rattle.cq_steps_tests.proofs.hint_tests.push_indexes.Given as goal

abbrev pub invariant-loop-index : goal.invariant-loop-index
invariant-loop-index l = IsOf l.queue l.tailer.caller
