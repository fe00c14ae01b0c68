use Rattle.cq_words.specs.Values.{IsOf}
use Rattle.cq_threads_tests.proofs.filling_tests.begin_waiting.Given as goal

abbrev pub invariant-loop : goal.invariant-loop
invariant-loop g l = IsOf l.fn.queue l.appender
