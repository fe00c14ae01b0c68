-- What a change makes of the names of a queue.
use Rattle.std.specs.Prelude.{◌≡◌, ◌⊎◌, ⊤, ℕ, ◌<◌, ◌≤◌, List, [], ◌∷◌, ◌++◌, Option, None, Some, length, option_map, set, slice_get, slice_index_or, string_bytes}
use Rattle.std.specs.List.{flat_map, remove, zip}
use Rattle.cq_config_text.specs.ConfigText.{IsTextOf}
use Rattle.cq_cycle.specs.Index.{index_text}
use Rattle.cq_files.specs.Queue.{CanBeOpened}
use Rattle.cq_files.specs.declared.opening.SavedQueue.{SavedQueue}
use Rattle.cq_model.specs.Settings.{Declares, IsTailerName, Settings, settings_of}
use Rattle.cq_model.specs.States.{end_of}
use Rattle.cq_model.specs.declared.config.TheConstants.{MAX_NAMES}
use Rattle.cq_model.specs.declared.contents.Contents.{Contents}
use Rattle.cq_orders.specs.declared.settings.NameChange.{NameChange}
use Rattle.cq_orders.specs.declared.settings.NameChange.TheVariants as change
use Rattle.cq_points.specs.Points.{IsPointFault, MeansPoint}
use Rattle.cq_text.specs.declared.fault.ToolFault.{ToolFault}
use Rattle.cq_text.specs.declared.fault.ToolFault.TheVariants.{OutOfMemory}
use Rattle.cq_names.specs.declared.deciding.Decision.{Decision}
use Rattle.cq_names.specs.declared.deciding.Decision.TheVariants.{Change, Refuse}
use Rattle.cq_names.specs.declared.editing.Plan.{Plan}
use Rattle.cq_names.specs.declared.fault.NameRefusal.{NameRefusal}
use Rattle.cq_names.specs.declared.fault.NameRefusal.TheVariants.{BadName, NoSuchName, PastEnd, ThereAlready, TooManyNames}

-- the queue can be opened, and has a position for each name
pub record CanBeEdited (queue : SavedQueue) : Type 0 where
  pub openable : CanBeOpened queue.config queue.contents
  pub paired : length queue.contents.positions ≡ length queue.config.names

-- these settings with other names
abbrev pub with_names : Settings → List (List ℕ) → Settings
with_names settings names = settings_of settings.layout settings.cycles settings.roll settings.epoch names

-- these contents with other positions
abbrev pub with_positions : Contents → List ℕ → Contents
with_positions contents positions = record { lists = contents.lists; positions = positions; floor = contents.floor }

-- the line of a name at a position: the name, a space, the position as an index, and a line feed
abbrev pub name_line : List ℕ → ℕ → List ℕ
name_line name position = name ++ 32 ∷ (index_text position ++ 10 ∷ [])

-- a line for each name, in their order
abbrev pub name_lines : List (List ℕ) → List ℕ → List ℕ
name_lines names positions = flat_map (λ named. name_line named.0 named.1) (zip names positions)

-- the names of a queue after a change, with their positions, and the name that changed, with its position
pub record Edit : Type 0 where
  pub names : List (List ℕ)
  pub positions : List ℕ
  pub name : List ℕ
  pub position : ℕ

-- these of each
abbrev pub edit_of : List (List ℕ) → List ℕ → List ℕ → ℕ → Edit
edit_of names positions name position = record { names = names; positions = positions; name = name; position = position }

-- the name is put after the others, at this position
abbrev pub added : Settings → Contents → List ℕ → ℕ → Edit
added settings contents name position = edit_of (settings.names ++ name ∷ []) (contents.positions ++ position ∷ []) name position

-- the name at this place is taken out with its position, and the others stay
abbrev pub removed : Settings → Contents → ℕ → Edit
removed settings contents place =
    edit_of (remove settings.names place) (remove contents.positions place) (slice_index_or settings.names place []) (slice_index_or contents.positions place 0)

-- the name at this place gets this position, and the others stay
abbrev pub moved : Settings → Contents → ℕ → ℕ → Edit
moved settings contents place position =
    edit_of settings.names (set contents.positions place position) (slice_index_or settings.names place []) position

-- the queue can have this name besides those that it has
pub record IsNewName (settings : Settings) (name : List ℕ) : Type 0 where
  pub lawful : IsTailerName name
  pub fresh : ¬ Declares settings name
  pub room : length settings.names < MAX_NAMES

-- the position that the word means, and this end without one
abbrev pub IsMeant : Settings → ℕ → Option (List ℕ) → ℕ → Type 0
IsMeant settings end None position = position ≡ end
IsMeant settings end (Some word) position = MeansPoint settings.roll settings.epoch word position

-- the position that the word means, and the end of the queue without one; it is not past that end
pub record IsPlace (settings : Settings) (contents : Contents) (word : Option (List ℕ)) (position : ℕ) : Type 0 where
  pub meant : IsMeant settings (end_of contents.lists) word position
  pub reached : position ≤ end_of contents.lists

-- the position that the word means is past the end of the queue, which is this one
pub record IsPast (settings : Settings) (contents : Contents) (word : Option (List ℕ)) (end : ℕ) : Type 0 where
  pub position : ℕ
  pub meant : IsMeant settings (end_of contents.lists) word position
  pub past : end_of contents.lists < position
  pub end_is : end ≡ end_of contents.lists

-- a new name is added, at the position of the word or at the end
pub record IsAdded (settings : Settings) (contents : Contents) (name : List ℕ) (word : Option (List ℕ)) (edit : Edit) : Type 0 where
  pub new : IsNewName settings name
  pub position : ℕ
  pub place : IsPlace settings contents word position
  pub edit_is : edit ≡ added settings contents name position

-- the name is removed
pub record IsRemoved (settings : Settings) (contents : Contents) (name : List ℕ) (edit : Edit) : Type 0 where
  pub at : ℕ
  pub named : slice_get settings.names at ≡ Some name
  pub edit_is : edit ≡ removed settings contents at

-- the name gets the position of the word
pub record IsMoved (settings : Settings) (contents : Contents) (name word : List ℕ) (edit : Edit) : Type 0 where
  pub at : ℕ
  pub named : slice_get settings.names at ≡ Some name
  pub position : ℕ
  pub place : IsPlace settings contents (Some word) position
  pub edit_is : edit ≡ moved settings contents at position

-- the change makes this of the names
abbrev pub IsEdit : NameChange → Settings → Contents → Edit → Type 0
IsEdit change.List settings contents edit = ⊥
IsEdit (change.Add name at) settings contents edit = IsAdded settings contents (string_bytes name) (option_map string_bytes at) edit
IsEdit (change.Remove name) settings contents edit = IsRemoved settings contents (string_bytes name) edit
IsEdit (change.Move name to) settings contents edit = IsMoved settings contents (string_bytes name) (string_bytes to) edit

-- why the queue cannot have this name too, where the first cause counts
abbrev pub RefusesNew : Settings → List ℕ → NameRefusal → Type 0
RefusesNew settings name BadName = ¬ IsTailerName name
RefusesNew settings name ThereAlready = IsTailerName name × Declares settings name
RefusesNew settings name TooManyNames = IsTailerName name × (¬ Declares settings name) × (MAX_NAMES ≤ length settings.names)
RefusesNew settings name _ = ⊥

-- why no name is added
abbrev pub RefusesAdd : Settings → Contents → List ℕ → Option (List ℕ) → NameRefusal → Type 0
RefusesAdd settings contents name word (PastEnd end) = IsNewName settings name × IsPast settings contents word end
RefusesAdd settings contents name word refusal = RefusesNew settings name refusal

-- why no name is removed
abbrev pub RefusesRemove : Settings → List ℕ → NameRefusal → Type 0
RefusesRemove settings name NoSuchName = ¬ Declares settings name
RefusesRemove settings name _ = ⊥

-- why no name gets another position
abbrev pub RefusesMove : Settings → Contents → List ℕ → List ℕ → NameRefusal → Type 0
RefusesMove settings contents name word (PastEnd end) = Declares settings name × IsPast settings contents (Some word) end
RefusesMove settings contents name word refusal = RefusesRemove settings name refusal

-- why the change is refused
abbrev pub Refuses : NameChange → Settings → Contents → NameRefusal → Type 0
Refuses change.List settings contents refusal = ⊥
Refuses (change.Add name at) settings contents refusal = RefusesAdd settings contents (string_bytes name) (option_map string_bytes at) refusal
Refuses (change.Remove name) settings contents refusal = RefusesRemove settings (string_bytes name) refusal
Refuses (change.Move name to) settings contents refusal = RefusesMove settings contents (string_bytes name) (string_bytes to) refusal

-- the words mean no position
abbrev pub IsMeantFault : Settings → Option (List ℕ) → ToolFault → Type 0
IsMeantFault settings None fault = ⊥
IsMeantFault settings (Some word) fault = IsPointFault settings.roll settings.epoch word fault

-- so it is of a name that may be added
abbrev pub IsAddFault : Settings → List ℕ → Option (List ℕ) → ToolFault → Type 0
IsAddFault settings name word fault = IsNewName settings name × IsMeantFault settings word fault

-- so it is of a name that is there
abbrev pub IsMoveFault : Settings → List ℕ → List ℕ → ToolFault → Type 0
IsMoveFault settings name word fault = Declares settings name × IsPointFault settings.roll settings.epoch word fault

-- the word of a change means no position
abbrev pub IsWordFault : NameChange → Settings → ToolFault → Type 0
IsWordFault change.List settings fault = ⊥
IsWordFault (change.Add name at) settings fault = IsAddFault settings (string_bytes name) (option_map string_bytes at) fault
IsWordFault (change.Remove name) settings fault = ⊥
IsWordFault (change.Move name to) settings fault = IsMoveFault settings (string_bytes name) (string_bytes to) fault

-- the text of `queue.cqc` has the names and positions of this edit and all else as it was, and the line is that of the name
pub record IsPlanFor (settings : Settings) (contents : Contents) (edit : Edit) (plan : Plan) : Type 0 where
  pub config : IsTextOf (with_names settings edit.names) edit.positions contents.floor plan.config.items
  pub line : plan.line.items ≡ name_line edit.name edit.position

-- an edit is planned, or refused
abbrev pub DecidesBy : (Edit → Type 0) → (NameRefusal → Type 0) → Settings → Contents → Decision → Type 0
DecidesBy Makes Refuses settings contents (Change plan) = (edit : Edit) × Makes edit × IsPlanFor settings contents edit plan
DecidesBy Makes Refuses settings contents (Refuse refusal) = Refuses refusal

-- what is decided where a name is to be added
abbrev pub IsAddition : Settings → Contents → List ℕ → Option (List ℕ) → Decision → Type 0
IsAddition settings contents name word =
    DecidesBy (IsAdded settings contents name word) (RefusesAdd settings contents name word) settings contents

-- and removed
abbrev pub IsRemoval : Settings → Contents → List ℕ → Decision → Type 0
IsRemoval settings contents name = DecidesBy (IsRemoved settings contents name) (RefusesRemove settings name) settings contents

-- and moved
abbrev pub IsMovement : Settings → Contents → List ℕ → List ℕ → Decision → Type 0
IsMovement settings contents name word =
    DecidesBy (IsMoved settings contents name word) (RefusesMove settings contents name word) settings contents

-- what is decided of a change
abbrev pub IsDecision : NameChange → Settings → Contents → Decision → Type 0
IsDecision change settings contents = DecidesBy (IsEdit change settings contents) (Refuses change settings contents) settings contents

-- why nothing is decided of a queue: memory ran out, or a word means no position
abbrev pub IsDecisionFault : NameChange → Settings → ToolFault → Type 0
IsDecisionFault change settings fault = (fault ≡ OutOfMemory) ⊎ IsWordFault change settings fault

-- names are to be changed
abbrev pub IsChange : NameChange → Type 0
IsChange change.List = ⊥
IsChange _ = ⊤
