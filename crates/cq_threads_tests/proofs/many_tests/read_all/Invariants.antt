use Rattle.cq_words.specs.Values.{IsOf}
use Rattle.cq_threads_tests.proofs.many_tests.read_all.Given as goal

abbrev pub invariant-loop : goal.invariant-loop
invariant-loop l = IsOf l.queue l.tailer.caller
