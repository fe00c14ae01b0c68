use Rattle.cq_words.specs.Values.{IsOf}
use Rattle.cq_threads_tests.proofs.parts_tests.write_messages.Given as goal

abbrev pub invariant-loop-number : goal.invariant-loop-number
invariant-loop-number l = IsOf l.fn.queue l.appender
