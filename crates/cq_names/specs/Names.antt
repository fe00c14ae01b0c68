-- How `name` ends.
use Rattle.std.specs.Prelude.{◌≡◌, ◌≢◌, ◌⊎◌, ℕ, List, Option, None, Some, Result, Ok, Err, IfErr, IfOk, IfSome}
use Rattle.std.specs.Io.KnownBytes.{Appends, Keeps}
use Rattle.cq_config_text.specs.ConfigText.{IsTextOf}
use Rattle.cq_folder.specs.Folder.{Files, KeepsFiles, WritesFile}
use Rattle.cq_folder.specs.declared.names.TheConstants.{CONFIG_FILE}
use Rattle.cq_files.specs.FolderFaults.{IsFileFault, IsSaveFault, MindsVersion, TellsFile}
use Rattle.cq_files.specs.Openable.{HoldOpenable, IsOpenFault, IsOpened}
use Rattle.cq_files.specs.Queue.{contents_in}
use Rattle.cq_files.specs.Saving.{KeepsOrSaves}
use Rattle.cq_files.specs.declared.opening.SavedQueue.{SavedQueue}
use Rattle.cq_orders.specs.declared.settings.NameChange.{NameChange}
use Rattle.cq_orders.specs.declared.settings.NameChange.TheVariants as change
use Rattle.cq_text.specs.Output.{AppendsBeginning}
use Rattle.cq_text.specs.declared.fault.ToolFault.{ToolFault}
use Rattle.cq_text.specs.declared.fault.ToolFault.TheVariants.{OldVersion, OutOfMemory, WriteFault}
use Rattle.cq_names.specs.Edits.{Edit, IsDecision, IsEdit, IsWordFault, Refuses, name_line, name_lines, with_names}
use Rattle.cq_names.specs.declared.deciding.Decision.{Decision}
use Rattle.cq_names.specs.declared.fault.NameFault.{NameFault}
use Rattle.cq_names.specs.declared.fault.NameFault.TheVariants.{Refused, Tool}
use Rattle.cq_names.specs.declared.fault.NameRefusal.{NameRefusal}

-- this is decided of the queue that the folder's files hold
pub record Decides (change : NameChange) (files : Option Files) (decision : Decision) : Type 0 where
  pub queue : SavedQueue
  pub opened : IsOpened files queue
  pub decided : IsDecision change queue.config queue.contents decision

-- a word of the change means no position in the queue that the files hold
pub record HasBadWord (change : NameChange) (files : Files) (fault : ToolFault) : Type 0 where
  pub queue : SavedQueue
  pub opened : HoldOpenable queue files
  pub word : IsWordFault change queue.config fault

-- why nothing is decided: the queue is not opened, memory ran out, or a word means no position
abbrev pub IsUndecided : NameChange → Files → ToolFault → Type 0
IsUndecided change files fault = IsOpenFault files fault ⊎ ((fault ≡ OutOfMemory) ⊎ HasBadWord change files fault)

-- the line of each name of the queue, and no file changed
pub record IsListed (before after : Option Files) (text : List ℕ) : Type 0 where
  pub queue : SavedQueue
  pub opened : IsOpened before queue
  pub kept : KeepsFiles before after
  pub text_is : text ≡ name_lines queue.config.names queue.contents.positions

-- the edit of the queue's names is saved in `queue.cqc`, in which all else stays, as every other file does; the text is the line
-- of the name
pub record IsChanged (change : NameChange) (before after : Option Files) (text : List ℕ) : Type 0 where
  pub queue : SavedQueue
  pub opened : IsOpened before queue
  pub edit : Edit
  pub edited : IsEdit change queue.config queue.contents edit
  pub config : List ℕ
  pub config_is : IsTextOf (with_names queue.config edit.names) edit.positions queue.contents.floor config
  pub written : WritesFile before after CONFIG_FILE.now config
  pub text_is : text ≡ name_line edit.name edit.position

-- the names are listed, or the change is saved
abbrev pub IsDone : NameChange → Option Files → Option Files → List ℕ → Type 0
IsDone change.List before after text = IsListed before after text
IsDone change before after text = IsChanged change before after text

-- the change of the queue's names is refused
pub record IsRefused (change : NameChange) (files : Option Files) (refusal : NameRefusal) : Type 0 where
  pub queue : SavedQueue
  pub opened : IsOpened files queue
  pub refuses : Refuses change queue.config queue.contents refusal

-- the command was done and its text written; or a change is refused, and nothing was changed or written
abbrev pub IsOutcome : NameChange → Option Files → Option Files → Option (List ℕ) → Option (List ℕ) → Option NameRefusal → Type 0
IsOutcome change before after old new None = (text : List ℕ) × IsDone change before after text × Appends old new text
IsOutcome change before after old new (Some refusal) = IsRefused change before refusal × KeepsFiles before after × Keeps old new

-- how the command ends. After a fault every file is as it was, or all is saved. Only a fault of the writer comes after a
-- beginning of the text
pub record Ends (change : NameChange) (before after : Option Files) (old new : Option (List ℕ))
    (result : Result (Option NameRefusal) ToolFault) : Type 0 where
  pub done : IfOk result (IsOutcome change before after old new)
  pub left : IfErr result (KeepsOrSaves before after ((text : List ℕ) × IsDone change before after text))
  pub silent : IfErr result (λ fault. fault ≢ WriteFault → Keeps old new)
  pub broken : IfErr result (λ fault. fault ≡ WriteFault → (text : List ℕ) × IsDone change before after text × AppendsBeginning old new text)

-- the change is made of the queue that the files hold, and this fault comes as it is saved or printed
pub record IsUnsaved (change : NameChange) (files : Files) (fault : ToolFault) : Type 0 where
  pub queue : SavedQueue
  pub opened : HoldOpenable queue files
  pub edit : Edit
  pub edited : IsEdit change queue.config (contents_in queue) edit
  pub saving : (fault ≡ WriteFault) ⊎ (IsFileFault CONFIG_FILE.now fault × IsSaveFault fault)

-- the names of the queue that the files hold cannot be printed
pub record IsUnprinted (files : Files) (fault : ToolFault) : Type 0 where
  pub queue : SavedQueue
  pub opened : HoldOpenable queue files
  pub fault_is : fault ≡ WriteFault

-- why the command is not done: what it is to do is not decided; or it is, and is not saved or printed
abbrev pub IsNamesFault : NameChange → Files → ToolFault → Type 0
IsNamesFault change.List files fault = IsOpenFault files fault ⊎ ((fault ≡ OutOfMemory) ⊎ IsUnprinted files fault)
IsNamesFault change files fault = IsUndecided change files fault ⊎ IsUnsaved change files fault

-- every file is as it was, or a fault of a file is one of `queue.cqc`
abbrev pub KeepsOrBlames : Option Files → Option Files → ToolFault → Type 0
KeepsOrBlames before after fault = KeepsFiles before after ⊎ TellsFile (λ file. file ≡ CONFIG_FILE.now) fault

-- a change minds the version of the folder, and no folder is too old for a list
abbrev pub MayBeOld : {T : Type 0} → NameChange → Option Files → Result T ToolFault → Type 0
MayBeOld change.List files result = IfErr result (λ fault. fault ≢ OldVersion)
MayBeOld change files result = IfSome files (λ held. MindsVersion held result)

-- what the command came to, where a refusal is no fault of its tools
abbrev pub outcome_of : {T : Type 0} → Result T NameFault → Result (Option NameRefusal) ToolFault
outcome_of (Ok done) = Ok None
outcome_of (Err (Refused refusal)) = Ok (Some refusal)
outcome_of (Err (Tool fault)) = Err fault

-- the same of a command that refuses nothing
abbrev pub all_done : {T : Type 0} → Result T ToolFault → Result (Option NameRefusal) ToolFault
all_done (Ok done) = Ok None
all_done (Err fault) = Err fault
