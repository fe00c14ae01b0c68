use Rattle.std.proofs.Common.{map, take}
use Rattle.cq_folder.specs.Folder.{Files, ListsFiles, after_writes, named_file}
use Rattle.cq_model.specs.Settings.{texts}
use Rattle.cq_logged.proofs.shown.with_shown.Given as goal

-- the names are those of the files with what was shown so far
abbrev pub invariant-loop-file : goal.invariant-loop-file
invariant-loop-file l = (files : Files) → ListsFiles (texts l.fn.names.items) files
    → ListsFiles (texts l.all.items) (after_writes (map named_file (take l.file-index l.shown)) files)
