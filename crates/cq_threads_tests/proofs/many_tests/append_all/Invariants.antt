use Rattle.cq_words.specs.Values.{IsOf}
use Rattle.cq_threads_tests.proofs.many_tests.append_all.Given as goal

abbrev pub invariant-loop-number : goal.invariant-loop-number
invariant-loop-number g l = IsOf l.fn.queue l.appender
