-- What is left of a folder's files after several calls, of which the last may write.
use Rattle.std.proofs.Common.{◌≡◌, List, [], ℕ, ap, inl, inr, refl, ◌∙◌}
use Rattle.std.specs.Prelude.{◌⊎◌, Option, None, Some, IfErr, OnErr, Result, Ok, Err, if◌then◌else◌}
use Rattle.std.specs.Str.{bytes_eq}
use Rattle.cq_folder.specs.Folder.{Files, KeepsFiles, NamedFile, WritesFile, WritesFiles, after_writes}
use Rattle.cq_text.specs.declared.fault.ToolFault.{ToolFault}
use Rattle.cq_text.specs.declared.fault.ToolFault.TheVariants.{FileFault, OutOfMemory}
use Rattle.cq_files.specs.FolderFaults.{IsFileFault, IsSaveFault, TellsFile}
use Rattle.cq_files.specs.Saving.{KeepsOrSaves}
use Rattle.cq_files.proofs.QueueLemmas.{keeps-trans}

-- a file that was written behind calls that keep all files
pub kept_then_wrote : (a b c : Option Files) (file bytes : List ℕ) → KeepsFiles a b → WritesFile b c file bytes → WritesFile a c file bytes
kept_then_wrote None b c file bytes kept done = tt
kept_then_wrote (Some a) None c file bytes kept done = absurd kept
kept_then_wrote (Some a) (Some b) None file bytes kept done = absurd done
kept_then_wrote (Some a) (Some b) (Some c) file bytes kept done = λ name.
    done name ∙ ap (λ (held : Option (List ℕ)). if bytes_eq file name then Some bytes else held) (kept name)

-- the same of several files
pub kept_then_written : (a b c : Option Files) (written : List NamedFile) → KeepsFiles a b → WritesFiles b c written → WritesFiles a c written
kept_then_written None b c written kept done = tt
kept_then_written (Some a) None c written kept done = absurd kept
kept_then_written (Some a) (Some b) None written kept done = absurd done
kept_then_written (Some a) (Some b) (Some c) written kept done = λ name.
    done name ∙ ap (λ (held : Files). after_writes written held name) (λ i other. kept other i)

-- writing no file changes none
pub nothing_written : (a : Option Files) → WritesFiles a a []
nothing_written None = tt
nothing_written (Some a) = λ name. refl

-- the fault of a file tells its name
pub tells_file : (name : List ℕ) (fault : ToolFault) → IsFileFault name fault → TellsFile (λ file. file ≡ name) fault
tells_file name (FileFault file) is = is
tells_file name _ is = tt

-- a fault leaves all files as they were
pub still_kept : {T : Type 0} (result : Result T ToolFault) (before after : Option Files) (Saved : Type 0) → KeepsFiles before after
    → IfErr result (KeepsOrSaves before after Saved)
still_kept (Ok value) before after Saved kept = tt
still_kept (Err fault) before after Saved kept = record { unsaved = λ other. kept; scarce = λ memory. kept; whole = inl kept }

-- what a call leaves that saves
pub left_by_save : {T : Type 0} (result : Result T ToolFault) (before after : Option Files) (Saved : Type 0)
    → IfErr result IsSaveFault → IfErr result (λ fault. fault ≡ OutOfMemory → KeepsFiles before after)
    → OnErr result (KeepsFiles before after ⊎ Saved) → IfErr result (KeepsOrSaves before after Saved)
left_by_save (Ok value) before after Saved saving scarce whole = tt
left_by_save (Err fault) before after Saved saving scarce whole =
    record { unsaved = λ other. absurd (other saving); scarce = scarce; whole = whole }

-- the same after calls that keep all files
pub left_after : {T : Type 0} (result : Result T ToolFault) (a b c : Option Files) (Saved All : Type 0) → KeepsFiles a b
    → (Saved → All) → IfErr result (KeepsOrSaves b c Saved) → IfErr result (KeepsOrSaves a c All)
left_after (Ok value) a b c Saved All kept all left = tt
left_after (Err fault) a b c Saved All kept all left = record {
  unsaved = λ other. keeps-trans a b c kept (left.unsaved other);
  scarce = λ memory. keeps-trans a b c kept (left.scarce memory);
  whole = elim left.whole [ inl same ↦ inl (keeps-trans a b c kept same) | inr saved ↦ inr (all saved) ];
}

-- what holds after a fault in any case, in place of something else
pub in_any_case : {T : Type 0} (result : Result T ToolFault) (Kept : Type 0) (Other : ToolFault → Type 0) → Kept
    → IfErr result (λ fault. Kept ⊎ Other fault)
in_any_case (Ok value) Kept Other kept = tt
in_any_case (Err fault) Kept Other kept = inl kept
