-- What is left of files that were to be saved.
use Rattle.std.specs.Prelude.{◌≡◌, ◌⊎◌, Option}
use Rattle.cq_folder.specs.Folder.{Files, KeepsFiles}
use Rattle.cq_text.specs.declared.fault.ToolFault.{ToolFault}
use Rattle.cq_text.specs.declared.fault.ToolFault.TheVariants.{OutOfMemory}
use Rattle.cq_files.specs.FolderFaults.{IsSaveFault}

-- no file changed, or all was saved; if out of memory, and before the command began to save, none changed
pub record KeepsOrSaves (before after : Option Files) (Saved : Type 0) (fault : ToolFault) : Type 0 where
  pub unsaved : ¬ IsSaveFault fault → KeepsFiles before after
  pub scarce : fault ≡ OutOfMemory → KeepsFiles before after
  pub whole : KeepsFiles before after ⊎ Saved
