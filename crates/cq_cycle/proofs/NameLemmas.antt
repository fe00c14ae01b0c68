-- Texts of dates and times tell them apart.
use Rattle.std.proofs.Common.{◌≡◌, ℕ, ◌+◌, ◌/◌, ◌%◌, List, ◌++◌, pos, arith, sym, ◌∙◌}
use Rattle.jiff_core.specs.declared.civil.date.Date.{Date}
use Rattle.jiff_core.specs.Calendar.{IsCivilDate}
use Rattle.jiff_core.proofs.DateLemmas.{epoch_day_injective}
use Rattle.jiff_core.proofs.SignedLemmas.{signed_arith}
use Rattle.cq_cycle.specs.declared.roll.Roll.{Roll}
use Rattle.cq_cycle.specs.declared.roll.Roll.TheVariants.{Daily, Hourly, Minutely}
use Rattle.cq_cycle.specs.Cycle.{length_of, start_of}
use Rattle.cq_cycle.specs.Name.{IsDateOf, date_text, time_text, two_digits}

-- numbers with the same two digits are the same
two_digits_injective : (a b : ℕ) → two_digits a ≡ two_digits b → a ≡ b
two_digits_injective a b e =
    let tens : 48 + a / 10 ≡ 48 + b / 10 = cc in
    let ones : 48 + a % 10 ≡ 48 + b % 10 = cc in
    omega arith

-- the date with these parts
date_of : (year month day : ℕ) → IsCivilDate (pos year) month day → Date
date_of year month day civil = record {
  year = pos year;
  month = month;
  day = day;
  year_in = civil.0;
  month_in = civil.1;
  day_in = civil.2;
}

-- the parts of two dates are the same
pub record SameDate (year month day year' month' day' : ℕ) : Type 0 where
  pub year_same : year ≡ year'
  pub month_same : month ≡ month'
  pub day_same : day ≡ day'

-- dates with one day number are the same
pub same_date : (number year month day year' month' day' : ℕ) → IsDateOf number year month day
    → IsDateOf number year' month' day' → SameDate year month day year' month' day'
unfolding date_of
same_date number year month day year' month' day' one other =
    let date = date_of year month day one.civil in
    let date' = date_of year' month' day' other.civil in
    let same = epoch_day_injective date date' (one.counted ∙ sym other.counted) in
    let year_same = same.0 in
    record { year_same = omega (arith, signed_arith); month_same = same.1; day_same = same.2 }

-- dates with one text are the same, and so is what follows
pub date_text_injective : (year month day year' month' day' : ℕ) (rest rest' : List ℕ)
    → date_text year month day ++ rest ≡ date_text year' month' day' ++ rest'
    → SameDate year month day year' month' day' × (rest ≡ rest')
date_text_injective year month day year' month' day' rest rest' e =
    let century : year / 100 ≡ year' / 100 = two_digits_injective (year / 100) (year' / 100) cc in
    let ones : year % 100 ≡ year' % 100 = two_digits_injective (year % 100) (year' % 100) cc in
    let date : SameDate year month day year' month' day' = record {
      year_same = omega arith;
      month_same = two_digits_injective month month' cc;
      day_same = two_digits_injective day day' cc;
    } in
    (date, cc)

-- cycles that begin on one day at times with one text are the same
pub same_cycle : (roll : Roll) (epoch cycle cycle' : ℕ)
    → start_of roll epoch cycle / length_of Daily ≡ start_of roll epoch cycle' / length_of Daily
    → time_text roll (start_of roll epoch cycle % length_of Daily)
    ≡ time_text roll (start_of roll epoch cycle' % length_of Daily)
    → cycle ≡ cycle'
same_cycle Daily epoch cycle cycle' day time = omega arith
same_cycle Hourly epoch cycle cycle' day time =
    let start : ℕ = start_of Hourly epoch cycle % length_of Daily in
    let start' : ℕ = start_of Hourly epoch cycle' % length_of Daily in
    let hour = two_digits_injective (start / length_of Hourly) (start' / length_of Hourly) cc in
    omega arith
same_cycle Minutely epoch cycle cycle' day time =
    let start : ℕ = start_of Minutely epoch cycle % length_of Daily in
    let start' : ℕ = start_of Minutely epoch cycle' % length_of Daily in
    let hour = two_digits_injective (start / length_of Hourly) (start' / length_of Hourly) cc in
    let minute = two_digits_injective (start / length_of Minutely % 60) (start' / length_of Minutely % 60) cc in
    omega arith
