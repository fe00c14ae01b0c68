use Rattle.std.proofs.Common.{◌≡◌, ◌++◌, map, take}
use Rattle.cq_advice.specs.Advice.{unfolded}
use Rattle.cq_advice.proofs.faults.push_fault.Given as goal

-- the text of the fault, and what is below it so far
abbrev pub invariant-loop-byte : goal.invariant-loop-byte
invariant-loop-byte l = l.text.items ≡ l.initial.text.items ++ map unfolded (take l.byte-index l.fault.below.now)
