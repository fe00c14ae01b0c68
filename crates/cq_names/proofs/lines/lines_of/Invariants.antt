use Rattle.std.proofs.Common.{◌≡◌, ◌++◌, string_bytes}
use Rattle.std.specs.Iterator.Adapters.{zip_first, zip_second}
use Rattle.std.specs.Slice.Iter.{iter_rest}
use Rattle.cq_model.specs.Settings.{texts}
use Rattle.cq_names.specs.Edits.{name_lines}
use Rattle.cq_names.proofs.lines.lines_of.Given as goal

-- what is written, and the lines of the names that are left, are the whole
abbrev pub invariant-loop-name : goal.invariant-loop-name
invariant-loop-name l =
    string_bytes l.text ++ name_lines (texts (iter_rest (zip_first l.name-iterator))) (iter_rest (zip_second l.name-iterator))
    ≡ name_lines (texts l.names) l.positions
