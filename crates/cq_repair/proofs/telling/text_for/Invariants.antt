use Rattle.std.proofs.Common.{◌≡◌, ◌++◌, string_bytes}
use Rattle.std.specs.Iterator.Adapters.{zip_first, zip_second}
use Rattle.std.specs.Slice.Iter.{iter_rest}
use Rattle.cq_model.specs.Settings.{texts}
use Rattle.cq_repair.specs.Kept.{name_lines}
use Rattle.cq_repair.proofs.telling.text_for.Given as goal

-- what is written, and the lines of the names that are left, are the whole
abbrev pub invariant-loop-name : goal.invariant-loop-name
invariant-loop-name l =
    string_bytes l.text ++ name_lines l.dry_run l.kept.ended l.kept.end (texts (iter_rest (zip_first l.name-iterator))) (iter_rest (zip_second l.name-iterator))
    ≡ string_bytes l.initial.text ++ name_lines l.dry_run l.kept.ended l.kept.end l.found.saved.config.names l.found.saved.positions.items
