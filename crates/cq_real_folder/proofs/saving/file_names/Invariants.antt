use Rattle.std.proofs.Common.{◌≡◌, map, string_bytes, take}
use Rattle.cq_real_folder.specs.Record.{AreFileNames}
use Rattle.cq_real_folder.proofs.saving.file_names.Given as goal

-- the names so far are those that were given so far, and a record can have them
abbrev pub invariant-loop-name : goal.invariant-loop-name
invariant-loop-name l =
    AreFileNames l.names.items × (map string_bytes l.names.items ≡ map string_bytes (take l.name-index l.given))
