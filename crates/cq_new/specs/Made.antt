-- The settings of a new queue of which some were given.
use Rattle.std.specs.Prelude.{◌≡◌, ⊤, ℕ, ◌*◌, ◌/◌, List, Option, None, Some, if◌then◌else◌, codes, max, min, nat_le, string_bytes, option_map}
use Rattle.cq_cycle.specs.declared.roll.Roll.{Roll}
use Rattle.cq_layout.specs.Shape.{measures}
use Rattle.cq_model.specs.Settings.{Settings, new_settings, texts}
use Rattle.cq_model.specs.declared.config.TheConstants.{MAX_CYCLES, MAX_QUEUE_CELLS}
use Rattle.cq_orders.specs.declared.settings.NewSettings.{NewSettings}
use Rattle.cq_settings.specs.declared.settings.InitSettings.{InitSettings}
use Rattle.cq_new.specs.declared.making.TheConstants.{CELLS, SPACING}

-- what was given, or else this
abbrev pub given_or : {A : Type 0} → A → Option A → A
given_or other None = other
given_or other (Some given) = given

-- this was given, or nothing was
abbrev pub IsGiven : {A : Type 0} → Option A → A → Type 0
IsGiven None value = ⊤
IsGiven (Some given) value = value ≡ given

-- the least count of entries with which the index has room for as many messages as the cells
abbrev pub count_for : ℕ → ℕ
count_for cells = if nat_le cells 2048 then 8 else (if nat_le cells 8192 then 16 else (if nat_le cells 32768 then 32 else
    (if nat_le cells 131072 then 64 else (if nat_le cells 524288 then 128 else 256))))

-- as many cycles of so many cells as a queue may have, and one at least
abbrev pub cycles_for : ℕ → ℕ
cycles_for cells = min MAX_CYCLES (max 1 (MAX_QUEUE_CELLS / max 1 cells))

-- the settings are those that were given, and for the others these
pub record IsMadeOf (given : NewSettings) (made : InitSettings) : Type 0 where
  pub roll : string_bytes made.roll ≡ given_or (codes "daily") (option_map string_bytes given.roll)
  pub epoch : made.epoch ≡ 0
  pub cells : made.cells ≡ given_or CELLS given.cells
  pub index_count : made.index_count ≡ count_for made.cells
  pub index_spacing : made.index_spacing ≡ SPACING
  pub cycles : made.cycles ≡ given_or (cycles_for made.cells) given.cycles
  pub names : texts made.names.items ≡ texts given.names.items

-- the settings of a queue with what was made, but with this roll, this index and so many cycles
abbrev pub settings_with : InitSettings → Roll → ℕ → ℕ → ℕ → Settings
settings_with made roll index_count index_spacing cycles =
    new_settings (measures made.cells index_count index_spacing) cycles roll made.epoch (texts made.names.items)
