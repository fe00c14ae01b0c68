use Rattle.cq_words.specs.Values.{IsOf}
use Rattle.cq_threads_tests.proofs.thread_tests.count_in_order.Given as goal

abbrev pub invariant-loop : goal.invariant-loop
invariant-loop l = IsOf l.queue l.tailer.caller
