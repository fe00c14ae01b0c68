use Rattle.std.proofs.Common.{◌≡◌, map, take}
use Rattle.cq_repair.specs.Kept.{lowered}
use Rattle.cq_repair.proofs.planning.lowered_positions.Given as goal

-- the positions so far
abbrev pub invariant-loop-position : goal.invariant-loop-position
invariant-loop-position l = l.after.items ≡ map (lowered l.kept.ended l.kept.end) (take l.position-index l.positions)
