-- How C asks for a queue to be made.
use Rattle.std.specs.Prelude.{◌≡◌, ◌⊎◌, ℕ, List}
use Rattle.std.specs.List.{AllByRecursion}
use Rattle.std.specs.Str.{IsUtf8}
use Rattle.cq_cycle.specs.declared.roll.Roll.{Roll}
use Rattle.cq_foreign.specs.Rolls.{roll_number}
use Rattle.cq_layout.specs.Shape.{measures}
use Rattle.cq_model.specs.Settings.{IsLawfulSettings, new_settings}
use Rattle.cq_model.specs.Settings as model
use Rattle.cq_text.specs.Lines.{input_lines}
use Rattle.linnetshelf.specs.declared.settings.Settings.{Settings}
use Rattle.linnetshelf.specs.declared.status.Status.{Status}
use Rattle.linnetshelf.specs.declared.status.Status.TheVariants as status

-- these settings with this roll, and the lines of a text as names
abbrev pub asked : Settings → Roll → List ℕ → model.Settings
asked s way text =
    new_settings (measures s.cells s.index_count s.index_spacing) s.cycles way s.epoch (input_lines text)

-- what is asked for, with the roll that has the number
pub record IsAsked (s : Settings) (text : List ℕ) (made : model.Settings) : Type 0 where
  pub way : Roll
  pub numbered : roll_number way ≡ s.roll
  pub made_is : made ≡ asked s way text

-- a queue of these settings may be, and its names are texts
pub record CanBeMade (s : Settings) (way : Roll) (text : List ℕ) : Type 0 where
  pub numbered : roll_number way ≡ s.roll
  pub texts : AllByRecursion IsUtf8 (input_lines text)
  pub lawful : IsLawfulSettings (asked s way text)

-- why there is no configuration: no queue of these settings may be, or memory was refused
abbrev pub IsNotMade : Settings → List ℕ → Status → Type 0
IsNotMade s text how =
    ((how ≡ status.BadSettings) × ((way : Roll) → ¬ CanBeMade s way text)) ⊎ (how ≡ status.OutOfMemory)

-- why a line is no name: it is no text, or memory was refused
abbrev pub IsNoName : List ℕ → Status → Type 0
IsNoName line how = ((how ≡ status.BadSettings) × (¬ IsUtf8 line)) ⊎ (how ≡ status.OutOfMemory)

-- why the lines of a text are no names: one of them is no text, or memory was refused
abbrev pub HasNoNames : List ℕ → Status → Type 0
HasNoNames text how =
    ((how ≡ status.BadSettings) × (¬ AllByRecursion IsUtf8 (input_lines text))) ⊎ (how ≡ status.OutOfMemory)
