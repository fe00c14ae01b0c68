use Rattle.std.proofs.Common.{◌≡◌, take}
use Rattle.cq_model.specs.Settings.{texts}
use Rattle.cq_trim.specs.Trimmed.{name_lines}
use Rattle.cq_trim.proofs.planning.lines_of.Given as goal

-- the lines so far
abbrev pub invariant-loop-name : goal.invariant-loop-name
invariant-loop-name l = l.text.items ≡ name_lines (texts (take l.name-index l.names))
