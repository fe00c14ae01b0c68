use Rattle.std.proofs.Common.{◌≡◌, ◌*◌, ◌≤◌, ◌^◌, sum, take}
use Rattle.cq_stat.proofs.cycles.sum_of.Given as goal

-- the sum so far, of numbers of 32 bits
abbrev pub invariant-loop-number : goal.invariant-loop-number
invariant-loop-number l = (l.total ≡ sum (take l.number-index l.numbers)) × (l.total ≤ l.number-index * 2 ^ 32)
