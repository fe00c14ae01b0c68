use Rattle.cq_words.specs.Values.{IsOf}
use Rattle.cq_steps_tests.proofs.many.append_all.Given as goal

abbrev pub invariant-loop : goal.invariant-loop
invariant-loop l = IsOf l.fn.queue l.appender
