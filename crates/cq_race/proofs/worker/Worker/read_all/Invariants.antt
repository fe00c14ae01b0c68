use Rattle.std.proofs.Common.{◌≡◌, vec_len}
use Rattle.cq_words.specs.Values.{IsOf}
use Rattle.cq_race.proofs.worker.Worker.read_all.Given as goal

abbrev pub invariant-loop : goal.invariant-loop
invariant-loop g l = IsOf l.queue l.tailer.caller × (vec_len l.read ≡ l.counter)
