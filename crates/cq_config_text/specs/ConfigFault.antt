-- Why a text gives no configuration.
use Rattle.std.specs.Prelude.{ℕ, ◌<◌, ◌≤◌, ◌≡◌, ◌⊎◌, ⊤, List, Some, Result, Ok, Err}
use Rattle.cq_cycle.specs.declared.roll.TheConstants.{LAST_CYCLE}
use Rattle.cq_layout.specs.Layout.{IsLawfulLayout}
use Rattle.cq_model.specs.Settings.{IsLawfulSettings, Settings}
use Rattle.cq_config_text.specs.declared.config_text.SavedConfig.{SavedConfig}
use Rattle.cq_config_text.specs.declared.config_fault.ConfigFault.{ConfigFault}
use Rattle.cq_config_text.specs.declared.config_fault.ConfigFault.TheVariants.{OutOfMemory, Line, BadShape, BadConfig}
use Rattle.cq_config_text.specs.ConfigText.{IsTextOf, faulty_line}

-- which settings are refused for their limits: the shape's come first
abbrev pub RefusesSettings : ConfigFault → Settings → Type 0
RefusesSettings OutOfMemory settings = ⊤
RefusesSettings (Line number) settings = ⊥
RefusesSettings BadShape settings = ¬ IsLawfulLayout settings.layout
RefusesSettings BadConfig settings = IsLawfulLayout settings.layout × ¬ IsLawfulSettings settings

-- the same with a floor, whose limit is among the last
abbrev pub RefusesSaved : ConfigFault → Settings → ℕ → Type 0
RefusesSaved BadConfig settings floor =
    IsLawfulLayout settings.layout × ((¬ IsLawfulSettings settings) ⊎ (LAST_CYCLE < floor))
RefusesSaved fault settings floor = RefusesSettings fault settings

-- why a text is refused: a line is faulty, or it is the text of settings and a floor that are refused
abbrev pub RefusesText : ConfigFault → List ℕ → Type 0
RefusesText OutOfMemory text = ⊤
RefusesText (Line number) text = faulty_line text ≡ Some number
RefusesText fault text = (settings : Settings) × (positions : List ℕ) × (floor : ℕ)
    × IsTextOf settings positions floor text × RefusesSaved fault settings floor

-- what was read: these settings within their limits, these positions, and this floor within its limit
pub record Saves (saved : SavedConfig) (settings : Settings) (places : List ℕ) (start : ℕ) : Type 0 where
  pub config : saved.config ≡ settings
  pub positions : saved.positions.items ≡ places
  pub floor : saved.floor ≡ start
  pub lawful : IsLawfulSettings settings
  pub low : start ≤ LAST_CYCLE

-- what reading the text of settings answers: they are refused for their limits, or given back with the positions and the
-- floor
abbrev pub Judges : Result SavedConfig ConfigFault → Settings → List ℕ → ℕ → Type 0
Judges (Ok saved) settings positions floor = Saves saved settings positions floor
Judges (Err fault) settings positions floor = RefusesSaved fault settings floor
