use Rattle.std.proofs.Common.{◌≡◌, ◌++◌, string_bytes, take}
use Rattle.std.specs.List.{flat_map}
use Rattle.cq_stat.specs.StatJson.{more_cycles_json}
use Rattle.cq_stat.proofs.json.push_more_cycles.Given as goal

-- the cycles so far
abbrev pub invariant-loop-cycle : goal.invariant-loop-cycle
invariant-loop-cycle l = string_bytes l.text ≡ string_bytes l.fn.text ++ flat_map more_cycles_json (take l.cycle-index l.cycles)
