-- What is left after the old file was written, and then what changes.
use Rattle.std.proofs.Common.{◌≡◌, ◌≢◌, ◌∙◌, ℕ, List, [], ◌∷◌, ap, inl, inr, refl}
use Rattle.std.specs.Prelude.{Option, None, Some, OnErr, Result, Ok, Err, IfErr}
use Rattle.cq_folder.specs.Folder.{Files, KeepsFiles, KeepsOrWrites, NamedFile, WritesFile, WritesFiles, after_writes}
use Rattle.cq_files.specs.FolderFaults.{IsSaveFault, TellsFile}
use Rattle.cq_text.specs.declared.fault.ToolFault.{ToolFault}
use Rattle.cq_text.specs.declared.fault.ToolFault.TheVariants.{FileFault, OutOfMemory, WriteFault}
use Rattle.cq_repair.specs.Plans.{IsCutShort}

-- one file was written, and then some
pub wrote_then_wrote : (a b c : Option Files) (name bytes : List ℕ) (more : List NamedFile) → WritesFile a b name bytes → WritesFiles b c more
    → WritesFiles a c ((name, bytes) ∷ more)
wrote_then_wrote None b c name bytes more one rest = tt
wrote_then_wrote (Some a) None c name bytes more one rest = absurd one
wrote_then_wrote (Some a) (Some b) None name bytes more one rest = absurd rest
wrote_then_wrote (Some a) (Some b) (Some c) name bytes more one rest = λ file.
    rest file ∙ ap (λ (held : Files). after_writes more held file) (λ i other. one other i)

-- one file was written, and then none
pub wrote_then_kept : (a b c : Option Files) (name bytes : List ℕ) → WritesFile a b name bytes → KeepsFiles b c
    → WritesFiles a c ((name, bytes) ∷ [])
wrote_then_kept None b c name bytes one kept = tt
wrote_then_kept (Some a) None c name bytes one kept = absurd one
wrote_then_kept (Some a) (Some b) None name bytes one kept = absurd kept
wrote_then_kept (Some a) (Some b) (Some c) name bytes one kept = λ file. kept file ∙ one file

-- the old file is, and the rest is not saved
pub cut_then : {T : Type 0} (result : Result T ToolFault) (a b c : Option Files) (old : NamedFile) (image : List ℕ) (more : List NamedFile)
    → WritesFile a b old.0 old.1 → IfErr result IsSaveFault → IfErr result (TellsFile (λ name. name ≡ image))
    → IfErr result (λ fault. fault ≢ WriteFault) → IfErr result (λ fault. fault ≡ OutOfMemory → KeepsFiles b c)
    → OnErr result (KeepsOrWrites b c more) → IfErr result (IsCutShort old image (WritesFiles a c (old ∷ more)) a c)
cut_then (Ok done) a b c old image more one save told unprinted scarce whole = tt
cut_then (Err OutOfMemory) a b c old image more one save told unprinted scarce whole =
    inr (wrote_then_kept a b c old.0 old.1 one (scarce refl))
cut_then (Err (FileFault name)) a b c old image more one save told unprinted scarce (inl kept) =
    inr (told, inl (wrote_then_kept a b c old.0 old.1 one kept))
cut_then (Err (FileFault name)) a b c old image more one save told unprinted scarce (inr wrote) =
    inr (told, inr (wrote_then_wrote a b c old.0 old.1 more one wrote))
cut_then (Err WriteFault) a b c old image more one save told unprinted scarce whole = absurd (unprinted refl)
cut_then (Err _) a b c old image more one save told unprinted scarce whole = absurd save
