-- How `repair` ends.
use Rattle.std.specs.Prelude.{◌≡◌, ◌≢◌, ◌⊎◌, ℕ, List, [], ◌∷◌, Bool, false, Option, None, Some, Result, Ok, Err, IfErr, IfOk}
use Rattle.std.specs.Io.KnownBytes.{Appends, Keeps}
use Rattle.cq_folder.specs.Folder.{Files, KeepsFiles, NamedFile}
use Rattle.cq_image.specs.Image.{AreNext}
use Rattle.cq_text.specs.Output.{AppendsBeginning}
use Rattle.cq_text.specs.declared.fault.ToolFault.{ToolFault}
use Rattle.cq_text.specs.declared.fault.ToolFault.TheVariants.{WriteFault}
use Rattle.cq_repair.specs.Kept.{AreChanges, old_file, repair_text, salvaged}
use Rattle.cq_repair.specs.Plans.{IsCutShort, IsEnded, IsMendable, IsUndecided, Leaves, Refuses}
use Rattle.cq_repair.specs.declared.fault.RepairFault.{RepairFault}
use Rattle.cq_repair.specs.declared.fault.RepairFault.TheVariants.{Refused, Tool}
use Rattle.cq_repair.specs.declared.fault.RepairRefusal.{RepairRefusal}
use Rattle.cq_repair.specs.declared.finding.Found.{Found}

-- the image in the file had a fault, and what is kept of it fits a cycle: the old file was written under its new name, and then the
-- new image and, where a name moves, the configuration; no other file changed, and in a dry run none. The text has what was done
pub record IsRepaired (dry : Bool) (file : List ℕ) (before after : Option Files) (text : List ℕ) : Type 0 where
  pub found : Found
  pub mendable : IsMendable file before found
  pub ended : Bool
  pub ended_is : IsEnded found ended
  pub changes : List NamedFile
  pub changes_are : AreChanges file ended found changes
  pub fit : AreNext found.saved.config.layout [] (salvaged found).messages
  pub left : Leaves dry (old_file file found ∷ changes) before after
  pub text_is : text ≡ repair_text dry file ended found

-- the command was done and its text written; or the image is not repaired, and nothing was changed or written
abbrev pub IsOutcome : Bool → List ℕ → Option Files → Option Files → Option (List ℕ) → Option (List ℕ) → Option RepairRefusal → Type 0
IsOutcome dry file before after old new None = (text : List ℕ) × IsRepaired dry file before after text × Appends old new text
IsOutcome dry file before after old new (Some refusal) = Refuses file before refusal × KeepsFiles before after × Keeps old new

-- the command repairs an image, or says why it does not. Only a fault of the writer comes after a beginning of the text
pub record Repairs (dry : Bool) (file : List ℕ) (before after : Option Files) (old new : Option (List ℕ))
    (result : Result (Option RepairRefusal) ToolFault) : Type 0 where
  pub done : IfOk result (IsOutcome dry file before after old new)
  pub silent : IfErr result (λ fault. fault ≢ WriteFault → Keeps old new)
  pub broken : IfErr result (λ fault. fault ≡ WriteFault → (text : List ℕ) × IsRepaired dry file before after text × AppendsBeginning old new text)

-- what was decided is not saved or not printed, and this is left. What a fault of the writer leaves is said by `Repairs`
pub record IsUnsaved (dry : Bool) (file : List ℕ) (files : Files) (after : Option Files) (fault : ToolFault) : Type 0 where
  pub found : Found
  pub mendable : IsMendable file (Some files) found
  pub left : (fault ≡ WriteFault) ⊎ ((dry ≡ false) × IsCutShort (old_file file found) file
      ((text : List ℕ) × IsRepaired false file (Some files) after text) (Some files) after fault)

-- why nothing is repaired, and what is left: nothing is decided, and no file changed; or what was decided is not saved or not printed
abbrev pub IsRepairFault : Bool → List ℕ → Files → Option Files → ToolFault → Type 0
IsRepairFault dry file files after fault =
    (IsUndecided file files fault × KeepsFiles (Some files) after) ⊎ IsUnsaved dry file files after fault

-- what the command came to, where a refusal is no fault of its tools
abbrev pub outcome_of : {T : Type 0} → Result T RepairFault → Result (Option RepairRefusal) ToolFault
outcome_of (Ok done) = Ok None
outcome_of (Err (Refused refusal)) = Ok (Some refusal)
outcome_of (Err (Tool fault)) = Err fault
