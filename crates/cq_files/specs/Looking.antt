-- How a call ends that reads files of a folder and writes none.
use Rattle.std.specs.Prelude.{◌≡◌, ℕ, IfErr, IfSome, OnOk, Option, Result, Some}
use Rattle.cq_folder.specs.Folder.{Entered, Files, KeepsFiles}
use Rattle.cq_folder.specs.declared.storage.Access.{Access}
use Rattle.cq_text.specs.declared.fault.ToolFault.{ToolFault}
use Rattle.cq_files.specs.Counted.{CountsFaults}

-- no file changed, and failures were counted; which faults come, and their cause in the files
pub record Looks {T : Type 0} (IsFault : ToolFault → Type 0) (IsCause : Files → ToolFault → Type 0) (before after : Option Files)
    (was now : ℕ) (result : Result T ToolFault) : Type 0 where
  pub kept : KeepsFiles before after
  pub counted : CountsFaults was now result
  pub fault : IfErr result IsFault
  pub cause : IfErr result (λ fault. IfSome before (λ files. IsCause files fault))

-- a command in a folder only looked at it, and is in it still: no file changed, and failures were counted
pub record Stays {S T : Type 0} (files : S → Option Files) (failed : S → ℕ) (entered : S → Entered) (before after : S)
    (result : Result T ToolFault) : Type 0 where
  pub kept : KeepsFiles (files before) (files after)
  pub counted : CountsFaults (failed before) (failed after) result
  pub inside : entered after ≡ entered before

-- a command entered a folder with this access and only looked at it: no file changed, and failures were counted
pub record Enters {S T : Type 0} (files : S → Option Files) (failed : S → ℕ) (entered : S → Entered) (access : Access)
    (before after : S) (result : Result T ToolFault) : Type 0 where
  pub kept : KeepsFiles (files before) (files after)
  pub counted : CountsFaults (failed before) (failed after) result
  pub inside : OnOk result (entered after ≡ Some access)
