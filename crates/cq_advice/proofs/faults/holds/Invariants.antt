use Rattle.std.proofs.Common.{◌≡◌, length}
use Rattle.cq_advice.specs.Advice.{holds}
use Rattle.cq_advice.proofs.faults.holds.Given as goal

abbrev pub invariant-loop-rest : goal.invariant-loop-rest
invariant-loop-rest l = holds l.rest l.part ≡ holds l.text l.part

abbrev pub decreases-loop-rest : goal.decreases-loop-rest
decreases-loop-rest l = length l.rest
