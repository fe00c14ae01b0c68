use Rattle.std.proofs.Common.{take}
use Rattle.std.specs.List.{AllByRecursion}
use Rattle.cq_trim.specs.Trimmed.{Loses}
use Rattle.cq_trim.proofs.planning.first_loser.Given as goal

-- none so far
abbrev pub invariant-loop-place : goal.invariant-loop-place
invariant-loop-place l = AllByRecursion (λ other. ¬ Loses l.queue.contents l.floor other) (take l.place l.queue.contents.positions)
