-- What is decided of an image.
use Rattle.std.specs.Prelude.{◌≡◌, ◌≢◌, ◌⊎◌, ◌↔◌, ℕ, List, [], ◌∷◌, Bool, true, false, Contains, IfSome, IsSomeAnd, IsTrue, Option, None, Some, map, string_bytes}
use Rattle.cq_config_text.specs.ConfigText.{IsTextOf}
use Rattle.cq_folder.specs.Folder.{Files, KeepsFiles, KeepsOrWrites, NamedFile, WritesFiles, named_file}
use Rattle.cq_folder.specs.declared.names.TheConstants.{CONFIG_FILE}
use Rattle.cq_folder.specs.declared.storage.Access.{Access}
use Rattle.cq_folder.specs.declared.storage.Access.TheVariants.{Alone, Shared}
use Rattle.cq_files.specs.FolderFaults.{IsShowFault}
use Rattle.cq_files.specs.Saved.{first_file}
use Rattle.cq_image.specs.Image.{AreNext}
use Rattle.cq_image.specs.declared.found.Salvaged.{Salvaged}
use Rattle.cq_layout.specs.Layout.{CycleLayout}
use Rattle.cq_model.specs.Settings.{texts}
use Rattle.cq_text.specs.declared.fault.ToolFault.{ToolFault}
use Rattle.cq_text.specs.declared.fault.ToolFault.TheVariants.{FileFault, OutOfMemory}
use Rattle.cq_repair.specs.Found.{HasLater, IsFound, IsOldOrUnread}
use Rattle.cq_repair.specs.Kept.{AreChanges, bad_name, end_of_kept, old_file, repair_text, salvaged}
use Rattle.cq_repair.specs.declared.deciding.Decision.{Decision}
use Rattle.cq_repair.specs.declared.deciding.Decision.TheVariants.{Refuse, Repair}
use Rattle.cq_repair.specs.declared.fault.RepairRefusal.{RepairRefusal}
use Rattle.cq_repair.specs.declared.fault.RepairRefusal.TheVariants.{NoFault, ThereAlready}
use Rattle.cq_repair.specs.declared.finding.Found.{Found}
use Rattle.cq_repair.specs.declared.planning.Kept.{Kept}
use Rattle.cq_repair.specs.declared.planning.Plan.{Plan}

-- the cycle is ended if a later one has an image
abbrev pub IsEnded : Found → Bool → Type 0
IsEnded found ended = IsTrue ended ↔ HasLater found.saved.config (texts found.names.items) found.cycle

-- the messages before a fault, which fit a cycle of the layout
pub record AreBeforeFault (layout : CycleLayout) (salvaged : Salvaged) (messages : List (List ℕ)) : Type 0 where
  pub faulty : salvaged.fault ≢ None
  pub all : messages ≡ salvaged.messages
  pub fit : AreNext layout [] messages

-- this is kept of an image that has a fault
pub record IsKept (found : Found) (kept : Kept) : Type 0 where
  pub faulty : (salvaged found).fault ≢ None
  pub messages : kept.messages ≡ (salvaged found).messages
  pub fit : AreNext found.saved.config.layout [] kept.messages
  pub ended : IsEnded found kept.ended
  pub end_is : kept.end ≡ end_of_kept found

-- the configuration with these positions
pub record IsConfigFile (found : Found) (positions : List ℕ) (file : NamedFile) : Type 0 where
  pub named : file.0 ≡ CONFIG_FILE.now
  pub spelled : IsTextOf found.saved.config positions found.saved.floor file.1

-- this is done to the queue of an image that has a fault
pub record IsPlanned (dry : Bool) (file : List ℕ) (found : Found) (plan : Plan) : Type 0 where
  pub faulty : (salvaged found).fault ≢ None
  pub fit : AreNext found.saved.config.layout [] (salvaged found).messages
  pub ended : Bool
  pub ended_is : IsEnded found ended
  pub old : named_file plan.old ≡ old_file file found
  pub taken : IsTrue plan.is_taken ↔ Contains (texts found.names.items) (bad_name file)
  pub changes : AreChanges file ended found (map named_file plan.changes.items)
  pub text : plan.text.items ≡ repair_text dry file ended found

-- how the folder is entered: shared where nothing is changed
abbrev pub access_for : Bool → Access
access_for true = Shared
access_for false = Alone

-- a file with this name has other bytes
abbrev pub HasOther : NamedFile → Files → Type 0
HasOther file files = IsSomeAnd (files file.0) (λ bytes. bytes ≢ file.1)

-- what is decided of a plan, if the name that the old file would get is taken as it says
abbrev pub IsUnlessTaken : Plan → Option Files → Decision → Type 0
IsUnlessTaken plan files (Repair planned) = (planned ≡ plan)
    × (IsTrue plan.is_taken → IfSome files (λ held. ¬ HasOther (named_file plan.old) held))
IsUnlessTaken plan files (Refuse (ThereAlready name)) =
    (string_bytes name ≡ (named_file plan.old).0) × IfSome files (HasOther (named_file plan.old))
IsUnlessTaken plan files (Refuse (NoFault name)) = ⊥

-- the image of a queue has a fault, and no file with other bytes has the name that the old file would get
pub record IsMendable (file : List ℕ) (files : Option Files) (found : Found) : Type 0 where
  pub is_found : IsFound file files found
  pub faulty : (salvaged found).fault ≢ None
  pub free : IfSome files (λ held. ¬ HasOther (old_file file found) held)

-- the folder does not give the file with this name
abbrev pub IsUnread : List ℕ → ToolFault → Type 0
IsUnread name (FileFault file) = string_bytes file ≡ name
IsUnread name _ = ⊥

-- why the image of a queue is not repaired: it has no fault; else a file with other bytes has that name
abbrev pub Refuses : List ℕ → Option Files → RepairRefusal → Type 0
Refuses file files (NoFault name) =
    (found : Found) × IsFound file files found × ((salvaged found).fault ≡ None) × (string_bytes name ≡ file)
Refuses file files (ThereAlready name) = (found : Found) × IsFound file files found × ((salvaged found).fault ≢ None)
    × IfSome files (HasOther (old_file file found)) × (string_bytes name ≡ bad_name file)

-- why nothing is decided of an image that has a fault: a file has the name that the old file would get, and it is not read
pub record IsUnjudged (file : List ℕ) (files : Files) (fault : ToolFault) : Type 0 where
  pub found : Found
  pub is_found : IsFound file (Some files) found
  pub faulty : (salvaged found).fault ≢ None
  pub taken : Contains (texts found.names.items) (bad_name file)
  pub unread : IsUnread (bad_name file) fault

-- why nothing is decided: the image is not found; else that file is not read. Memory that runs out is among the first
abbrev pub IsUndecided : List ℕ → Files → ToolFault → Type 0
IsUndecided file files fault = IsShowFault (IsOldOrUnread file) file files fault ⊎ IsUnjudged file files fault

-- this is decided of the image in a file
abbrev pub Decides : Bool → List ℕ → Option Files → Decision → Type 0
Decides dry file files (Repair plan) = (found : Found) × IsMendable file files found × IsPlanned dry file found plan
Decides dry file files (Refuse refusal) = Refuses file files refusal

-- what is written: the old file, and then what changes
abbrev pub writes_of : Plan → List NamedFile
writes_of plan = named_file plan.old ∷ map named_file plan.changes.items

-- in a dry run no file changed; else these were written
abbrev pub Leaves : Bool → List NamedFile → Option Files → Option Files → Type 0
Leaves true writes before after = KeepsFiles before after
Leaves false writes before after = WritesFiles before after writes

-- what is left after a fault of a write: if out of memory, or if the fault has the name of the old file, no file changed or that
-- one was written; if it has the name of the image, the old file was written, or all was
abbrev pub IsCutShort : NamedFile → List ℕ → Type 0 → Option Files → Option Files → ToolFault → Type 0
IsCutShort old image All before after OutOfMemory = KeepsOrWrites before after (old ∷ [])
IsCutShort old image All before after (FileFault name) = ((string_bytes name ≡ old.0) × KeepsOrWrites before after (old ∷ []))
    ⊎ ((string_bytes name ≡ image) × (WritesFiles before after (old ∷ []) ⊎ All))
IsCutShort old image All before after _ = ⊥

-- the same of the writes of a plan
abbrev pub IsPlanCutShort : Plan → Option Files → Option Files → ToolFault → Type 0
IsPlanCutShort plan before after = IsCutShort (named_file plan.old) (first_file [] (map named_file plan.changes.items))
    (WritesFiles before after (writes_of plan)) before after
