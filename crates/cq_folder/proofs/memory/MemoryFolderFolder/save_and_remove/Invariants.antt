use Rattle.std.proofs.Common.{◌≡◌, Some, map, take}
use Rattle.cq_folder.specs.Folder.{SavesAndRemoves, named_file}
use Rattle.cq_folder.specs.MemoryFolder.{files_in}
use Rattle.cq_model.specs.Settings.{texts}
use Rattle.cq_folder.proofs.memory.MemoryFolderFolder.save_and_remove.Given as goal

-- the files are written, and those so far are removed; the folder counts the same failures, and is entered alike
abbrev pub invariant-loop-name : goal.invariant-loop-name
invariant-loop-name l =
    SavesAndRemoves (Some (files_in l.fn.self)) (Some (files_in l.self)) (map named_file l.changes) (texts (take l.name-index l.removed))
    × (l.self.failures ≡ l.fn.self.failures)
    × (l.self.entered ≡ l.fn.self.entered)
