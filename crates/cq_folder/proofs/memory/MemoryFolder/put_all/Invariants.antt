use Rattle.std.proofs.Common.{◌≡◌, Some, map, take}
use Rattle.cq_folder.specs.Folder.{WritesFiles, named_file}
use Rattle.cq_folder.specs.MemoryFolder.{files_in}
use Rattle.cq_folder.proofs.memory.MemoryFolder.put_all.Given as goal

-- the copy holds what the folder holds, with the files so far, counts the same failures, and is entered alike
abbrev pub invariant-loop-file : goal.invariant-loop-file
invariant-loop-file l =
    WritesFiles (Some (files_in l.fn.self)) (Some (files_in l.copy)) (map named_file (take l.file-index l.changes))
    × (l.copy.failures ≡ l.fn.self.failures)
    × (l.copy.entered ≡ l.fn.self.entered)
