-- What is decided of a queue.
use Rattle.std.specs.Prelude.{◌≡◌, ◌⊎◌, ℕ, Bool, List, Option, None, Some, IfSome, false, map, option_map, string_bytes}
use Rattle.cq_folder.specs.Folder.{Files, named_file}
use Rattle.cq_files.specs.Openable.{HoldOpenable, IsOpenFault}
use Rattle.cq_files.specs.Queue.{CanBeOpened, HoldQueue, IsLawfulQueue, contents_in}
use Rattle.cq_files.specs.declared.opening.CycleImage.{CycleImage}
use Rattle.cq_files.specs.declared.opening.SavedQueue.{SavedQueue}
use Rattle.cq_model.specs.Settings.{Settings, texts}
use Rattle.cq_model.specs.declared.contents.Contents.{Contents}
use Rattle.cq_orders.specs.declared.settings.TrimSettings.{TrimSettings}
use Rattle.cq_text.specs.declared.fault.ToolFault.{ToolFault}
use Rattle.cq_text.specs.declared.fault.ToolFault.TheVariants.{OutOfMemory}
use Rattle.cq_trim.specs.Floors.{IsBeforeFault, IsTrimFloor}
use Rattle.cq_trim.specs.Trimmed.{AreChanges, IsFirstLoser, LosesNone, name_lines, removed_files}
use Rattle.cq_trim.specs.declared.planning.Decision.{Decision}
use Rattle.cq_trim.specs.declared.planning.Decision.TheVariants.{Refuse, Trim}
use Rattle.cq_trim.specs.declared.planning.Plan.{Plan}

-- this is done to a queue that gets the floor
pub record IsPlan (settings : Settings) (contents : Contents) (images : List CycleImage) (floor : ℕ) (plan : Plan) : Type 0 where
  pub changes : AreChanges settings contents floor (map named_file plan.changes.items)
  pub removed : texts plan.removed.items ≡ removed_files floor images
  pub text : plan.text.items ≡ name_lines (removed_files floor images)

-- the first name that loses a message, or none does; nothing is said where it is forced
abbrev pub IsNameAtLoss : Bool → Settings → Contents → ℕ → Option (List ℕ) → Type 0
IsNameAtLoss force settings contents floor None = force ≡ false → LosesNone contents floor
IsNameAtLoss force settings contents floor (Some name) = (force ≡ false) × IsFirstLoser settings contents floor name

-- a queue that gets the floor is trimmed so, if no name loses a message or that is asked for
pub record IsAllowed (wanted : TrimSettings) (settings : Settings) (contents : Contents) (images : List CycleImage) (floor : ℕ)
    (plan : Plan) : Type 0 where
  pub unless_forced : wanted.force ≡ false → LosesNone contents floor
  pub plan_is : IsPlan settings contents images floor plan

-- else it is not: the name is the first one that loses a message
pub record IsForbidden (wanted : TrimSettings) (settings : Settings) (contents : Contents) (floor : ℕ) (name : List ℕ) : Type 0 where
  pub unforced : wanted.force ≡ false
  pub first : IsFirstLoser settings contents floor name

-- which of them it is
abbrev pub IsDecidedWith : TrimSettings → Settings → Contents → List CycleImage → ℕ → Decision → Type 0
IsDecidedWith wanted settings contents images floor (Trim plan) = IsAllowed wanted settings contents images floor plan
IsDecidedWith wanted settings contents images floor (Refuse name) = IsForbidden wanted settings contents floor (string_bytes name)

-- the same with the floor that is wanted
pub record IsDecision (wanted : TrimSettings) (settings : Settings) (contents : Contents) (images : List CycleImage) (decision : Decision) : Type 0 where
  pub floor : ℕ
  pub floor_is : IsTrimFloor settings contents wanted floor
  pub decided : IsDecidedWith wanted settings contents images floor decision

-- why nothing is decided of a queue: memory ran out, or the word that was given means no cycle
abbrev pub IsDecisionFault : TrimSettings → Settings → ToolFault → Type 0
IsDecisionFault wanted settings fault = (fault ≡ OutOfMemory) ⊎ IsBeforeFault settings (option_map string_bytes wanted.before) fault

-- this is decided of the queue that the folder's files hold
pub record Decides (wanted : TrimSettings) (files : Option Files) (decision : Decision) : Type 0 where
  pub queue : SavedQueue
  pub lawful : IsLawfulQueue queue
  pub held : IfSome files (HoldQueue queue)
  pub openable : CanBeOpened queue.config (contents_in queue)
  pub decided : IsDecision wanted queue.config (contents_in queue) queue.images.items decision

-- why nothing is decided: the queue is not opened, or the word means no cycle of it
abbrev pub IsUndecided : TrimSettings → Files → ToolFault → Type 0
IsUndecided wanted files fault = IsOpenFault files fault
    ⊎ ((queue : SavedQueue) × HoldOpenable queue files × IsBeforeFault queue.config (option_map string_bytes wanted.before) fault)
