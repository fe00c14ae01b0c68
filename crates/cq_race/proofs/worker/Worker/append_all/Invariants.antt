use Rattle.std.proofs.Common.{◌≡◌}
use Rattle.cq_words.specs.Values.{IsOf}
use Rattle.cq_race.proofs.worker.Worker.append_all.Given as goal

abbrev pub invariant-loop-number : goal.invariant-loop-number
invariant-loop-number g l = IsOf l.queue l.appender × (l.self.number ≡ l.fn.self.number)
