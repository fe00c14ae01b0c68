use Rattle.std.proofs.Common.{◌≡◌}
use Rattle.cq_words.specs.Values.{IsOf}
use Rattle.cq_race.proofs.worker.Worker.read_one.Given as goal

abbrev pub invariant-loop : goal.invariant-loop
invariant-loop g l = IsOf l.queue l.tailer.caller × (l.self.number ≡ l.fn.self.number)
