use Rattle.cq_words.specs.Values.{IsOf}
use Rattle.cq_steps_tests.proofs.few_steps_tests.steps_with_looks.Given as goal

abbrev pub invariant-loop : goal.invariant-loop
invariant-loop l = IsOf l.queue l.tailer.caller
