-- What a round prints of a queue that is read as it grows, and where the next one goes on.
use Rattle.std.specs.Prelude.{◌≡◌, ⊤, ◌<◌, ℕ, List, [], ◌∷◌, Option, None, Some, IfSome, false, max, option_map, string_bytes}
use Rattle.std.specs.List.{AllByRecursion, flat_map}
use Rattle.cq_folder.specs.Folder.{Files}
use Rattle.cq_forms.specs.Forms.{formed}
use Rattle.cq_forms.specs.Names.{AreNames}
use Rattle.cq_model.specs.Finds.{Placed}
use Rattle.cq_model.specs.Settings.{Settings}
use Rattle.cq_orders.specs.declared.settings.ReadSettings.{ReadSettings}
use Rattle.cq_text.specs.declared.fault.ToolFault.{ToolFault}
use Rattle.cq_files.specs.declared.opening.SavedQueue.{SavedQueue}
use Rattle.cq_files.specs.Queue.{CanBeOpened, HoldQueue, IsLawfulQueue, contents_in}
use Rattle.cq_commands.specs.Messages.{IsSince, IsStart, IsUntil, between, last_messages, limited, readable}
use Rattle.cq_commands.specs.QueueFaults.{FailsToRead}
use Rattle.cq_commands.specs.Spans.{place_after, place_at}
use Rattle.cq_commands.specs.declared.printing.ReadPlace.{ReadPlace}

-- the messages that come next: at or above the index of the place, below another, and as many as it leaves; or the last of them
abbrev pub coming : Option ℕ → ReadPlace → ℕ → List Placed → List Placed
coming None place until messages = limited place.left (between place.next until messages)
coming (Some count) place until messages = last_messages count (between place.next until messages)

-- where the first round begins: at the greater of two indexes; before the last messages at the other one, without a limit
abbrev pub first_place : Option ℕ → Option ℕ → ℕ → ℕ → ReadPlace
first_place None limit start since = place_at (max start since) limit
first_place (Some count) limit start since = place_at since None

-- a round begins where the one before it came to, and the first one where the settings say
abbrev pub BeginsAt : Settings → ReadSettings → Option ReadPlace → ReadPlace → Type 0
BeginsAt config settings (Some given) place = place ≡ given
BeginsAt config settings None place = (start : ℕ) × IsStart false (option_map string_bytes settings.from) start
    × ((since : ℕ) × IsSince config settings since × (place ≡ first_place settings.last settings.limit start since))

-- how many of the last messages the round prints: only the first one does so
abbrev pub last_in : ReadSettings → Option ReadPlace → Option ℕ
last_in settings None = settings.last
last_in settings (Some given) = None

-- the folder's files are a queue's, and its cycles have these names. The text has the messages that come next in it, each in the
-- form that was asked for, and the place is after them
pub record IsRound (settings : ReadSettings) (given : Option ReadPlace) (files : Option Files) (text : List ℕ)
    (after : ReadPlace) : Type 0 where
  pub queue : SavedQueue
  pub lawful : IsLawfulQueue queue
  pub held : IfSome files (HoldQueue queue)
  pub openable : CanBeOpened queue.config (contents_in queue)
  pub place : ReadPlace
  pub begins : BeginsAt queue.config settings given place
  pub until : ℕ
  pub until_is : IsUntil queue.config settings until
  pub names : ℕ → List ℕ
  pub named : AreNames queue.config.roll queue.config.epoch names (contents_in queue).lists
  pub text_is : text ≡ flat_map (formed settings.form names)
      (coming (last_in settings given) place until (readable (contents_in queue)))
  pub after_is : after ≡ place_after place (coming (last_in settings given) place until (readable (contents_in queue)))

-- why a round fails: as `read` does
abbrev pub IsRoundFault : ReadSettings → Option ReadPlace → Files → ToolFault → Type 0
IsRoundFault settings given files fault =
    FailsToRead ((text : List ℕ) × (after : ReadPlace) × IsRound settings given (Some files) text after) settings files fault

-- the indexes of the messages rise
abbrev pub IndexesRise : List Placed → Type 0
IndexesRise [] = ⊤
IndexesRise (message ∷ messages) = AllByRecursion (λ later. message.0 < later.0) messages × IndexesRise messages
