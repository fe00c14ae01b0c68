use Rattle.std.proofs.Common.{◌≡◌, ◌++◌, string_bytes, take}
use Rattle.std.specs.List.{flat_map}
use Rattle.cq_stat.specs.StatText.{name_line}
use Rattle.cq_stat.proofs.lines.push_names.Given as goal

-- the lines of the names so far
abbrev pub invariant-loop-name : goal.invariant-loop-name
invariant-loop-name l = string_bytes l.text ≡ string_bytes l.fn.text ++ flat_map name_line (take l.name-index l.names)
