use Rattle.std.proofs.Common.{◌≡◌, map, string_bytes, take}
use Rattle.cq_folder.specs.declared.storage.NewFile.{NewFile}
use Rattle.cq_real_folder.specs.Record.{AreFileNames}
use Rattle.cq_real_folder.proofs.saving.record_of.Given as goal

-- the names so far are those of the files so far, and a record can have them
abbrev pub invariant-loop-file : goal.invariant-loop-file
invariant-loop-file l =
    AreFileNames l.names.items
    × (map string_bytes l.names.items ≡ map (λ (file : NewFile). string_bytes file.name) (take l.file-index l.changes))
