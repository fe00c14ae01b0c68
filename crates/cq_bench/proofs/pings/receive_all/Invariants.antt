use Rattle.cq_words.specs.Values.{IsOf}
use Rattle.cq_bench.proofs.pings.receive_all.Given as goal

abbrev pub invariant-loop : goal.invariant-loop
invariant-loop g l = IsOf l.queue l.tailer.caller
