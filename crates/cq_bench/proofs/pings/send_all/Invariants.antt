use Rattle.cq_words.specs.Values.{IsOf}
use Rattle.cq_bench.proofs.pings.send_all.Given as goal

abbrev pub invariant-loop-number : goal.invariant-loop-number
invariant-loop-number g l = IsOf l.queue l.appender
