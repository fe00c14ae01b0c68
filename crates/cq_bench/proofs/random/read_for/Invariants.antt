use Rattle.cq_words.specs.Values.{IsOf}
use Rattle.cq_bench.proofs.random.read_for.Given as goal

abbrev pub invariant-loop-batches : goal.invariant-loop-batches
invariant-loop-batches g l = IsOf l.queue l.tailer.caller
