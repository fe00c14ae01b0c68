use Rattle.std.proofs.Common.{◌≡◌, ◌++◌, string_bytes, take}
use Rattle.std.specs.List.{flat_map}
use Rattle.cq_stat.specs.StatText.{cycle_line}
use Rattle.cq_stat.proofs.lines.push_cycles.Given as goal

-- the lines of the cycles so far
abbrev pub invariant-loop-cycle : goal.invariant-loop-cycle
invariant-loop-cycle l = string_bytes l.text ≡ string_bytes l.fn.text ++ flat_map cycle_line (take l.cycle-index l.cycles)
