-- The numbers that rolls have in other languages.
use Rattle.std.specs.Prelude.{◌≡◌, ◌≢◌, ℕ}
use Rattle.cq_cycle.specs.declared.roll.Roll.{Roll}
use Rattle.cq_cycle.specs.declared.roll.Roll.TheVariants as roll

-- the number of a roll
abbrev pub roll_number : Roll → ℕ
roll_number roll.Daily = 0
roll_number roll.Hourly = 1
roll_number roll.Minutely = 2

-- no roll has this number
abbrev pub HasNoRoll : ℕ → Type 0
HasNoRoll number = (way : Roll) → roll_number way ≢ number

-- a roll has this number, and this holds of it
pub record ByRoll (number : ℕ) (Says : Roll → Type 0) : Type 0 where
  pub way : Roll
  pub numbered : roll_number way ≡ number
  pub says : Says way
