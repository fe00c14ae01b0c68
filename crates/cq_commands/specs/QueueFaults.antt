-- Which faults of a folder's queue are answered.
use Rattle.std.specs.Prelude.{◌≡◌, ◌≢◌, ◌⊎◌, ℕ, ◌^◌, ◌<◌, List, IsSomeAnd, Option, None, Some, option_map, string_bytes}
use Rattle.cq_cycle.specs.Index.{index_text}
use Rattle.cq_model.specs.Settings.{Declares, Settings}
use Rattle.cq_folder.specs.Folder.{Files}
use Rattle.cq_orders.specs.declared.settings.ReadSettings.{ReadSettings}
use Rattle.cq_model.specs.declared.take_fault.TakeFault.{TakeFault}
use Rattle.cq_model.specs.declared.take_fault.TakeFault.TheVariants as take
use Rattle.cq_files.specs.declared.opening.SavedQueue.{SavedQueue}
use Rattle.cq_files.specs.FolderFaults.{IsSaveFault}
pub use Rattle.cq_files.specs.Openable.{HoldOpenable, HoldsBadContents, IsOpenFault}
use Rattle.cq_commands.specs.Messages.{IsReadOut, IsReadStart, IsSince}
use Rattle.cq_points.specs.Points.{IsPointFault}
use Rattle.cq_text.specs.declared.fault.ToolFault.{ToolFault}
use Rattle.cq_text.specs.declared.fault.ToolFault.TheVariants.{OutOfMemory, WriteFault, BadIndex, NoSuchName}
use Rattle.cq_files.specs.Printing.{TellsConfig}

-- the fault of a take
abbrev pub take_fault : TakeFault → ToolFault
take_fault take.NoSuchName = NoSuchName
take_fault take.OutOfMemory = OutOfMemory

-- the word is no index
abbrev pub IsNoIndex : List ℕ → Type 0
IsNoIndex word = (index : ℕ) → index < 2 ^ 64 → word ≢ index_text index

-- why a word means no index. Without a word there is no fault
abbrev pub IsBoundFault : Settings → Option (List ℕ) → ToolFault → Type 0
IsBoundFault settings None fault = ⊥
IsBoundFault settings (Some word) fault = IsPointFault settings.roll settings.epoch word fault

-- why it is not known between which indexes messages are read: the first word means none, or it does, and the other means none
abbrev pub IsBoundsFault : Settings → ReadSettings → ToolFault → Type 0
IsBoundsFault settings wanted fault = IsBoundFault settings (option_map string_bytes wanted.since) fault
    ⊎ (((since : ℕ) × IsSince settings wanted since) × IsBoundFault settings (option_map string_bytes wanted.until) fault)

-- why a queue that was opened is not read: a word means no index in it
pub record RefusesBounds (settings : ReadSettings) (files : Files) (fault : ToolFault) : Type 0 where
  pub queue : SavedQueue
  pub opened : HoldOpenable queue files
  pub start : ℕ
  pub start_is : IsReadStart settings start
  pub cause : IsBoundsFault queue.config settings fault

-- why messages are not read: `from` is no index; else the queue is not opened; else `since` or `until` means no index; else
-- they are read out, and the text is not written
abbrev pub FailsToRead : Type 0 → ReadSettings → Files → ToolFault → Type 0
FailsToRead ReadOut settings files fault = ((fault ≡ BadIndex) × IsSomeAnd (option_map string_bytes settings.from) IsNoIndex)
    ⊎ (((start : ℕ) × IsReadStart settings start × IsOpenFault files fault)
    ⊎ (RefusesBounds settings files fault ⊎ ((fault ≡ WriteFault) × ReadOut)))

-- the same where the text is that of `read`
abbrev pub IsReadFault : ReadSettings → Files → ToolFault → Type 0
IsReadFault settings files fault =
    FailsToRead ((text : List ℕ) × IsReadOut settings (Some files) text) settings files fault

-- memory ran out, or no such name is declared
abbrev pub IsNameFault : Settings → List ℕ → ToolFault → Type 0
IsNameFault settings name fault = (fault ≡ OutOfMemory) ⊎ ((fault ≡ NoSuchName) × ¬ Declares settings name)

-- why no message is taken under a name of a queue that was opened: there is no such name; else what was taken is not saved, and
-- the file that is told is the configuration, or not printed
pub record RefusesName (name : List ℕ) (files : Files) (fault : ToolFault) : Type 0 where
  pub queue : SavedQueue
  pub opened : HoldOpenable queue files
  pub cause : ((fault ≡ NoSuchName) × ¬ Declares queue.config name)
      ⊎ (Declares queue.config name × IsSaveFault fault × TellsConfig fault)

-- why no message is taken: the queue is not opened, or it is and the name is at fault, or what was taken
abbrev pub IsTakeFault : List ℕ → Files → ToolFault → Type 0
IsTakeFault name files fault = IsOpenFault files fault ⊎ RefusesName name files fault
