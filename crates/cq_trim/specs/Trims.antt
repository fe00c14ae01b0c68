-- How `trim` ends.
use Rattle.std.specs.Prelude.{◌≡◌, ◌≢◌, ◌⊎◌, ℕ, List, false, Option, None, Some, Result, Ok, Err, IfErr, IfOk, IfSome, option_map, string_bytes}
use Rattle.std.specs.Io.KnownBytes.{Appends, Keeps}
use Rattle.cq_folder.specs.Folder.{Files, KeepsFiles, NamedFile}
use Rattle.cq_files.specs.FolderFaults.{IsSaveFault, TellsFile}
use Rattle.cq_files.specs.Openable.{HoldOpenable, IsOpenFault}
use Rattle.cq_files.specs.Queue.{CanBeOpened, HoldQueue, IsLawfulQueue, contents_in}
use Rattle.cq_files.specs.Saving.{KeepsOrSaves}
use Rattle.cq_files.specs.declared.opening.SavedQueue.{SavedQueue}
use Rattle.cq_orders.specs.declared.settings.TrimSettings.{TrimSettings}
use Rattle.cq_text.specs.Output.{AppendsBeginning}
use Rattle.cq_text.specs.declared.fault.ToolFault.{ToolFault}
use Rattle.cq_text.specs.declared.fault.ToolFault.TheVariants.{WriteFault}
use Rattle.cq_trim.specs.Floors.{IsBeforeFault, IsTrimFloor}
use Rattle.cq_trim.specs.Trimmed.{AreChanges, IsFirstLoser, Leaves, LosesNone, first_touched, name_lines, removed_files}
use Rattle.cq_trim.specs.declared.fault.TrimFault.{TrimFault}
use Rattle.cq_trim.specs.declared.fault.TrimFault.TheVariants.{MessagesLeft, Tool}

-- the folder's files are a queue's, which can be opened, and it gets this floor
pub record IsFound (settings : TrimSettings) (files : Option Files) (queue : SavedQueue) (floor : ℕ) : Type 0 where
  pub lawful : IsLawfulQueue queue
  pub held : IfSome files (HoldQueue queue)
  pub openable : CanBeOpened queue.config (contents_in queue)
  pub floor_is : IsTrimFloor queue.config (contents_in queue) settings floor

-- the queue got its floor, the images of all cycles below it are removed, and the text has their names; in a dry run no file
-- changed. Unless it is forced, as many messages are left for each name
pub record IsTrimmed (settings : TrimSettings) (before after : Option Files) (text : List ℕ) : Type 0 where
  pub queue : SavedQueue
  pub floor : ℕ
  pub found : IsFound settings before queue floor
  pub allowed : settings.force ≡ false → LosesNone (contents_in queue) floor
  pub changes : List NamedFile
  pub changes_are : AreChanges queue.config (contents_in queue) floor changes
  pub left : Leaves settings.dry_run changes (removed_files floor queue.images.items) before after
  pub text_is : text ≡ name_lines (removed_files floor queue.images.items)

-- the name is the first one that would lose a message, and that is not asked for
pub record IsRefused (settings : TrimSettings) (files : Option Files) (name : List ℕ) : Type 0 where
  pub queue : SavedQueue
  pub floor : ℕ
  pub found : IsFound settings files queue floor
  pub unforced : settings.force ≡ false
  pub first : IsFirstLoser queue.config (contents_in queue) floor name

-- why what was decided is not saved, where a file fault tells the first file that was to be written or removed, or not printed
pub record IsUnsaved (settings : TrimSettings) (queue : SavedQueue) (fault : ToolFault) : Type 0 where
  pub saving : IsSaveFault fault
  pub saves : fault ≢ WriteFault → settings.dry_run ≡ false
  pub floor : ℕ
  pub floor_is : IsTrimFloor queue.config (contents_in queue) settings floor
  pub allowed : settings.force ≡ false → LosesNone (contents_in queue) floor
  pub changes : List NamedFile
  pub changes_are : AreChanges queue.config (contents_in queue) floor changes
  pub told : TellsFile (λ name. name ≡ first_touched changes (removed_files floor queue.images.items)) fault

-- why a queue that was opened is not trimmed: the word means no cycle; else what was decided is not saved or not printed
pub record RefusesTrim (settings : TrimSettings) (files : Files) (fault : ToolFault) : Type 0 where
  pub queue : SavedQueue
  pub opened : HoldOpenable queue files
  pub cause : IsBeforeFault queue.config (option_map string_bytes settings.before) fault
      ⊎ IsUnsaved settings queue fault

-- why nothing is removed: the queue is not opened, or it is and is not trimmed
abbrev pub IsTrimFault : TrimSettings → Files → ToolFault → Type 0
IsTrimFault settings files fault = IsOpenFault files fault ⊎ RefusesTrim settings files fault

-- the command was done and its text written; or a name would lose a message, and nothing was changed or written
abbrev pub IsOutcome : TrimSettings → Option Files → Option Files → Option (List ℕ) → Option (List ℕ) → Option (List ℕ) → Type 0
IsOutcome settings before after old new None = (text : List ℕ) × IsTrimmed settings before after text × Appends old new text
IsOutcome settings before after old new (Some name) = IsRefused settings before name × KeepsFiles before after × Keeps old new

-- the command trims a queue, or says for which name it does not. After a fault every file is as it was, or all is saved. Only
-- a fault of the writer comes after a beginning of the text
pub record Trims (settings : TrimSettings) (before after : Option Files) (old new : Option (List ℕ)) (result : Result (Option (List ℕ)) ToolFault) : Type 0 where
  pub done : IfOk result (IsOutcome settings before after old new)
  pub left : IfErr result (KeepsOrSaves before after ((text : List ℕ) × IsTrimmed settings before after text))
  pub silent : IfErr result (λ fault. fault ≢ WriteFault → Keeps old new)
  pub broken : IfErr result (λ fault. fault ≡ WriteFault → (text : List ℕ) × IsTrimmed settings before after text × AppendsBeginning old new text)

-- what the command came to, where a refusal is no fault of its tools
abbrev pub outcome_of : {T : Type 0} → Result T TrimFault → Result (Option (List ℕ)) ToolFault
outcome_of (Ok done) = Ok None
outcome_of (Err (MessagesLeft name)) = Ok (Some (string_bytes name))
outcome_of (Err (Tool fault)) = Err fault
