-- The name of a cycle: the civil date and time in UTC at which it begins, cut to the day, the hour or the minute.
use Rattle.std.specs.Prelude.{◌≡◌, ℕ, ◌+◌, ◌/◌, ◌%◌, List, [], ◌∷◌, ◌++◌, pos, codes}
use Rattle.jiff_core.specs.Calendar.{IsCivilDate, days_from_civil}
use Rattle.cq_cycle.specs.declared.roll.Roll.{Roll}
use Rattle.cq_cycle.specs.declared.roll.Roll.TheVariants.{Daily, Hourly, Minutely}
use Rattle.cq_cycle.specs.Cycle.{HasCycle, length_of, start_of}

-- the two decimal digits of a number below 100, where 48 is `0`
abbrev pub two_digits : ℕ → List ℕ
two_digits n = (48 + n / 10) ∷ (48 + n % 10) ∷ []

-- the four decimal digits of a number below 10000
abbrev pub four_digits : ℕ → List ℕ
four_digits n = two_digits (n / 100) ++ two_digits (n % 100)

-- `yyyyMMdd`
abbrev pub date_text : ℕ → ℕ → ℕ → List ℕ
date_text year month day = four_digits year ++ two_digits month ++ two_digits day

-- `-HH`
abbrev pub hour_text : ℕ → List ℕ
hour_text hour = codes "-" ++ two_digits hour

-- nothing, `-HH` or `-HHmm` of a time of day in milliseconds
abbrev pub time_text : Roll → ℕ → List ℕ
time_text Daily time = []
time_text Hourly time = hour_text (time / length_of Hourly)
time_text Minutely time = hour_text (time / length_of Hourly) ++ two_digits (time / length_of Minutely % 60)

-- the civil date is the one with this day number, counted from 1970-01-01
pub record IsDateOf (number year month day : ℕ) : Type 0 where
  pub civil : IsCivilDate (pos year) month day
  pub counted : days_from_civil (pos year) month day ≡ pos number

-- the text is the name of the cycle
pub record IsName (roll : Roll) (epoch cycle : ℕ) (text : List ℕ) : Type 0 where
  pub year : ℕ
  pub month : ℕ
  pub day : ℕ
  pub date : IsDateOf (start_of roll epoch cycle / length_of Daily) year month day
  pub spelled : text ≡ date_text year month day ++ time_text roll (start_of roll epoch cycle % length_of Daily)

-- no cycle that a queue may have has this name
abbrev pub NamesNoCycle : Roll → ℕ → List ℕ → Type 0
NamesNoCycle roll epoch text = (cycle : ℕ) → HasCycle roll epoch cycle → ¬ IsName roll epoch cycle text
