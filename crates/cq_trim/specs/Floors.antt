-- The floor that a queue gets.
use Rattle.std.specs.Prelude.{◌≡◌, ℕ, ◌-◌, List, Option, None, Some, if◌then◌else◌, length, max, min, nat_le, option_map, slice_get, string_bytes}
use Rattle.cq_model.specs.Settings.{Settings}
use Rattle.cq_model.specs.States.{last_cycle}
use Rattle.cq_model.specs.declared.contents.Contents.{Contents}
use Rattle.cq_model.specs.declared.contents.CycleList.{CycleList}
use Rattle.cq_orders.specs.declared.settings.TrimSettings.{TrimSettings}
use Rattle.cq_text.specs.declared.fault.ToolFault.{ToolFault}
use Rattle.cq_points.specs.Points.{IsPointFault}
use Rattle.cq_trim.specs.Words.{MeansCycle}

-- the number of a cycle, and 0 without one
abbrev pub number_of : Option CycleList → ℕ
number_of None = 0
number_of (Some l) = l.cycle

-- the first of the last n cycles, of which there is one at least, and 0 where there are no more than those
abbrev pub first_kept : List CycleList → ℕ → ℕ
first_kept lists n = if nat_le (length lists) (max n 1) then 0 else number_of (slice_get lists (length lists - max n 1))

-- the same for the number that was given, and 0 without one
abbrev pub keeps_from : List CycleList → Option ℕ → ℕ
keeps_from lists None = 0
keeps_from lists (Some n) = first_kept lists n

-- all cycles before this one are to be dropped: the one that the word means, and without a word none
abbrev pub IsBefore : Settings → Option (List ℕ) → ℕ → Type 0
IsBefore settings None cycle = cycle ≡ 0
IsBefore settings (Some word) cycle = MeansCycle settings word cycle

-- why the word that was given means no cycle
abbrev pub IsBeforeFault : Settings → Option (List ℕ) → ToolFault → Type 0
IsBeforeFault settings None fault = ⊥
IsBeforeFault settings (Some word) fault = IsPointFault settings.roll settings.epoch word fault

-- the floor where the cycles before one are dropped: it never falls, and is never above the last cycle
abbrev pub raised_floor : Contents → ℕ → ℕ
raised_floor contents cycle = max contents.floor (min cycle (last_cycle contents.lists))

-- the floor that a queue gets, by how many cycles are kept, and before which all are dropped
pub record IsTrimFloor (settings : Settings) (contents : Contents) (wanted : TrimSettings) (floor : ℕ) : Type 0 where
  pub before : ℕ
  pub before_is : IsBefore settings (option_map string_bytes wanted.before) before
  pub floor_is : floor ≡ raised_floor contents (max before (keeps_from contents.lists wanted.keep))
