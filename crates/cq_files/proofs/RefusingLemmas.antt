-- What holds where a command ends with the fault of one of its calls.
use Rattle.std.proofs.Common.{◌≡◌, ◌≢◌, ◌⊎◌, ℕ, ◌≤◌, List, arith, inl, inr, rules, subst, sym}
use Rattle.std.specs.Prelude.{Err, IfSome, IsErrAnd, None, Ok, Option, Result, Some}
use Rattle.cq_files.specs.FolderFaults.{HasCause, IsCurrent, IsFolderFault, IsShowFault, MindsVersion}
use Rattle.cq_folder.specs.Folder.{Files}
use Rattle.cq_model.specs.Settings.{Settings}
use Rattle.cq_text.specs.Faults.{IsDeviceFault}
use Rattle.cq_text.specs.declared.fault.ToolFault.{ToolFault}
use Rattle.cq_text.specs.declared.fault.ToolFault.TheVariants.{OldVersion, OutOfMemory, WriteFault}

-- one of two causes
pub first_cause : (files : Option Files) (P Q : Files → Type 0) → IfSome files P → IfSome files (λ held. P held ⊎ Q held)
first_cause None P Q cause = tt
first_cause (Some held) P Q cause = inl cause

-- a fault that is passed on minds the version as the one that it was
pub minds_passed : {T : Type 0} (files : Option Files) (fault : ToolFault) (result : Result T ToolFault)
    → IsErrAnd result (λ passed. passed ≡ fault)
    → IfSome files (λ held. IsFolderFault fault ⊎ ((fault ≡ OldVersion) ⊎ IsCurrent held))
    → IfSome files (λ held. MindsVersion held result)
minds_passed None fault result is minds = tt
minds_passed (Some held) fault (Ok value) is minds = absurd is
minds_passed (Some held) fault (Err passed) is minds =
    subst (λ (f : ToolFault). IsFolderFault f ⊎ ((f ≡ OldVersion) ⊎ IsCurrent held)) (sym is) minds

-- what comes after a folder of the current version was opened
pub minds_second : {U : Type 0} (files : Option Files) (result : Result U ToolFault)
    → IfSome files (λ held. IsCurrent held) → IfSome files (λ held. MindsVersion held result)
minds_second None result second = tt
minds_second (Some held) (Ok value) second = second
minds_second (Some held) (Err fault) second = inr (inr second)

-- nothing is shown of a file, since the folder is not opened
pub not_opened : (Refuses : Settings → Files → ToolFault → Type 0) (a : Option Files) (file : List ℕ) (fault : ToolFault) → IsFolderFault fault
    → IfSome a (λ files. HasCause files fault) → IfSome a (λ files. IsShowFault Refuses file files fault)
not_opened Refuses None file fault folder cause = tt
not_opened Refuses (Some a) file fault folder cause = inl (folder, cause)

-- a fault that is none of the writer's, and none of the device
abbrev pub IsOther : ToolFault → Type 0
IsOther fault = (fault ≢ WriteFault) × ¬ IsDeviceFault fault

pub other_memory : IsOther OutOfMemory
other_memory = (search rules, λ device. device)

-- one call after another counts no less
pub both_later : {a b c : ℕ} → a ≤ b → b ≤ c → a ≤ c
both_later one other = omega (arith, one, other)
