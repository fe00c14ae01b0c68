-- What the text of `queue.cqc` keeps of a queue.
use Rattle.std.specs.Prelude.{◌≡◌, ◌≤◌, ⊤, ℕ, List, [], false, length}
use Rattle.cq_config_text.specs.ConfigText.{IsTextOf}
use Rattle.cq_cycle.specs.declared.roll.TheConstants.{LAST_CYCLE}
use Rattle.cq_model.specs.Settings.{IsLawfulSettings}
use Rattle.cq_saved.specs.Saved.{SavedFacts}
use Rattle.cq_saved.specs.declared.fault.TextFault.{TextFault}
use Rattle.cq_saved.specs.declared.fault.TextFault.TheVariants as fault

-- the text is that of the settings, the positions and the floor, and no cycle is there
pub record IsReadFrom (text : List ℕ) (saved : SavedFacts) : Type 0 where
  pub text_is : IsTextOf saved.settings saved.contents.positions saved.contents.floor text
  pub lawful : IsLawfulSettings saved.settings
  pub low : saved.contents.floor ≤ LAST_CYCLE
  pub none : saved.contents.lists ≡ []
  pub ended : saved.is_open ≡ false

-- the settings, the positions and the floor have a text
pub record CanBeWritten (saved : SavedFacts) : Type 0 where
  pub paired : length saved.contents.positions ≡ length saved.settings.names
  pub low : saved.contents.floor ≤ LAST_CYCLE

-- why there is no text
abbrev pub IsTextFault : SavedFacts → TextFault → Type 0
IsTextFault saved fault.BadContents = ¬ CanBeWritten saved
IsTextFault saved fault.OutOfMemory = ⊤
