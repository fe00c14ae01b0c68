use Rattle.std.proofs.Common.{string_bytes, take}
use Rattle.std.specs.List.{AllByRecursion}
use Rattle.cq_repair.specs.Found.{IsLater}
use Rattle.cq_repair.proofs.finding.has_later.Given as goal

-- none so far
abbrev pub invariant-loop-name : goal.invariant-loop-name
invariant-loop-name l = AllByRecursion (λ name. ¬ IsLater l.config l.cycle (string_bytes name)) (take l.name-index l.names)
