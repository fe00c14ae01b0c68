-- What `take` with options prints, and what it leaves in a folder.
use Rattle.std.specs.Prelude.{◌≡◌, ◌≢◌, ◌⊎◌, ⊤, zero, suc, ℕ, ◌+◌, Bool, true, false, List, [], ◌∷◌, Option, None, Some, Result, IfErr, IfSome, slice_get, slice_set, unwrap_or}
use Rattle.std.specs.List.{flat_map}
use Rattle.std.specs.Io.KnownBytes.{Appends}
use Rattle.cq_config_text.specs.ConfigText.{IsTextOf}
use Rattle.cq_folder.specs.Folder.{Files, KeepsFiles, WritesFile}
use Rattle.cq_folder.specs.declared.names.TheConstants.{CONFIG_FILE}
use Rattle.cq_model.specs.Finds.{Placed}
use Rattle.cq_model.specs.declared.contents.Contents.{Contents}
use Rattle.cq_model.specs.Settings.{Declares}
use Rattle.cq_orders.specs.declared.settings.TakeSettings.{TakeSettings}
use Rattle.cq_model.specs.Journals.{HasTaken, JournalFacts, ReaderFacts}
use Rattle.cq_text.specs.declared.fault.ToolFault.{ToolFault}
use Rattle.cq_text.specs.declared.fault.ToolFault.TheVariants.{NoSuchName, OldVersion, WriteFault}
use Rattle.cq_files.specs.FolderFaults.{MindsVersion}
use Rattle.cq_files.specs.Queue.{CanBeOpened, HoldQueue, IsLawfulQueue, contents_in}
use Rattle.cq_files.specs.declared.opening.SavedQueue.{SavedQueue}
use Rattle.cq_commands.specs.declared.taking_by.TakenLines.{TakenLines}
use Rattle.cq_commands.specs.declared.taking_by.Took.{Took}
use Rattle.cq_commands.specs.declared.taking_by.Took.TheVariants.{Messages, Nothing}
use Rattle.cq_commands.specs.Messages.{asked, begun_with, limited, message_line, readable}
use Rattle.cq_commands.specs.QueueFaults.{HoldOpenable, IsOpenFault, IsTakeFault}

-- how many messages are taken at most
abbrev pub most_of : TakeSettings → ℕ
most_of settings = unwrap_or settings.limit 1

-- the first messages at or after a position, and no more than the number
abbrev pub next_messages : ℕ → ℕ → Contents → List Placed
next_messages most position contents = limited (Some most) (asked false position (readable contents))

-- the position of a name that took these messages: right after the last one, and as it was where there is none
abbrev pub position_after : ℕ → List Placed → ℕ
position_after position [] = position
position_after position (message ∷ messages) = position_after (message.0 + 1) messages

-- the contents with the name of this place at this position
abbrev pub with_position : Contents → ℕ → ℕ → Contents
with_position contents place position = record contents { positions = slice_set contents.positions place position }

-- a reader took messages from the position of the name on, no more than the number, and these are they
pub record HasTakenAll (old new : ReaderFacts) (name : List ℕ) (most : ℕ) (messages : List Placed) : Type 0 where
  pub place : ℕ
  pub named : slice_get old.journal.settings.names place ≡ Some name
  pub position : ℕ
  pub stood : slice_get old.journal.contents.positions place ≡ Some position
  pub messages_are : messages ≡ next_messages most position old.journal.contents
  pub settings : new.journal.settings ≡ old.journal.settings
  pub contents : new.journal.contents ≡ with_position old.journal.contents place (position_after position messages)

-- what is printed and saved of messages that were taken: a line each, and the name after the last one; nothing where there is none
abbrev pub AreTakenLines : JournalFacts → ℕ → ℕ → List Placed → Option TakenLines → Type 0
AreTakenLines journal place position [] None = ⊤
AreTakenLines journal place position (message ∷ messages) (Some taken) = (taken.lines.items ≡ flat_map message_line (message ∷ messages))
    × IsTextOf journal.settings (slice_set journal.contents.positions place (position_after position (message ∷ messages)))
    journal.contents.floor taken.config.items
AreTakenLines journal place position _ _ = ⊥

-- messages were taken from the position of the name on, no more than the number
pub record TakesAll (journal : JournalFacts) (name : List ℕ) (most : ℕ) (taken : Option TakenLines) : Type 0 where
  pub place : ℕ
  pub named : slice_get journal.settings.names place ≡ Some name
  pub position : ℕ
  pub stood : slice_get journal.contents.positions place ≡ Some position
  pub taken_is : AreTakenLines journal place position (next_messages most position journal.contents) taken

-- the name is after these messages in the configuration's file. No file changed where there is none, or where they were only
-- looked at
abbrev pub MovesName : Bool → SavedQueue → ℕ → ℕ → List Placed → Option Files → Option Files → Type 0
MovesName false queue place position (message ∷ messages) before after = (config : List ℕ)
    × IsTextOf queue.config (slice_set queue.contents.positions place (position_after position (message ∷ messages)))
    queue.contents.floor config
    × WritesFile before after CONFIG_FILE.now config
MovesName _ queue place position _ before after = KeepsFiles before after

-- the folder held a queue, and messages were taken from the position of the name on, no more than the number, or with `peek` only
-- looked at. The text has their lines
pub record IsTakenBy (peek : Bool) (most : ℕ) (name : List ℕ) (before after : Option Files) (text : List ℕ) : Type 0 where
  pub queue : SavedQueue
  pub lawful : IsLawfulQueue queue
  pub held : IfSome before (HoldQueue queue)
  pub openable : CanBeOpened queue.config (contents_in queue)
  pub place : ℕ
  pub named : slice_get queue.config.names place ≡ Some name
  pub position : ℕ
  pub stood : slice_get queue.contents.positions place ≡ Some position
  pub text_is : text ≡ flat_map message_line (next_messages most position (contents_in queue))
  pub moves : MovesName peek queue place position (next_messages most position (contents_in queue)) before after

-- what is said of such a text: there was nothing where it is empty
abbrev pub took_of : List ℕ → Took
took_of [] = Nothing
took_of (byte ∷ bytes) = Messages

-- such a text was written, and this is said of it
abbrev pub TellsTook : Option (List ℕ) → Option (List ℕ) → (List ℕ → Type 0) → Took → Type 0
TellsTook old new IsText took = (text : List ℕ) × IsText text × Appends old new text × (took ≡ took_of text)

-- why messages are not looked at under a name of a queue that was opened: there is no such name; else the lines are not written
pub record RefusesLook (name : List ℕ) (files : Files) (fault : ToolFault) : Type 0 where
  pub queue : SavedQueue
  pub opened : HoldOpenable queue files
  pub cause : ((fault ≡ NoSuchName) × ¬ Declares queue.config name) ⊎ (Declares queue.config name × (fault ≡ WriteFault))

-- why no messages are taken, or looked at
abbrev pub IsTakeByFault : Bool → List ℕ → Files → ToolFault → Type 0
IsTakeByFault true name files fault = IsOpenFault files fault ⊎ RefusesLook name files fault
IsTakeByFault false name files fault = IsTakeFault name files fault

-- what the version of the folder has to do with it: a take minds it, and for a look no folder is old
abbrev pub TakesVersionBy : {T : Type 0} → Bool → Option Files → Result T ToolFault → Type 0
TakesVersionBy true files result = IfErr result (λ fault. fault ≢ OldVersion)
TakesVersionBy false files result = IfSome files (λ held. MindsVersion held result)

-- takes of one message, one after another, as many as this, by readers of the same queue: what they took in all
abbrev pub TakeInTurn : ℕ → ReaderFacts → ReaderFacts → List ℕ → List Placed → Type 0
TakeInTurn zero old new name messages = (new ≡ old) × (messages ≡ [])
TakeInTurn (suc more) old new name messages = (middle : ReaderFacts) × (found : Option Placed) × HasTaken old middle name found
    × ((rest : List Placed) × TakeInTurn more middle new name rest × (messages ≡ begun_with found rest))
