-- Civil dates and their day numbers.
use Rattle.std.proofs.Common.{◌≡◌, ℕ, ◌<◌, ◌≤ℤ◌, ℤ, pos, ap, arith, lit≤}
use Rattle.std.proofs.lemmas.Int.{by_lt_z}
use Rattle.jiff_core.specs.Calendar.{IsCivilDate, days_from_civil}
use Rattle.jiff_core.proofs.SignedLemmas.{signed_arith}
use Rattle.jiff_core.proofs.CalendarLemmas.{day_count-lt_year, day_count-epoch, days_from_civil-day_count, days_in_month_bounds}
use borrow.Author.Differences.{up, down}

-- a date whose day number is not negative is of 1970 or later
pub year_from_1970 : (year : ℤ) (month day number : ℕ) → IsCivilDate year month day
    → days_from_civil year month day ≡ pos number → pos 1970 ≤ℤ year
year_from_1970 year month day number civil counted =
    by_lt_z year (pos 1970) (λ lt. absurd (
    let less = day_count-lt_year year month day (pos 1970) 1 1 civil (lit≤ tt) lt in
    let parts = days_from_civil-day_count year month day in
    let rise = ap up counted in
    let fall = ap down counted in
    omega (arith, signed_arith, day_count-epoch)))
    (λ ge. ge)

-- the parts of a date fit the digits that they are written with
pub record FitsDigits (year month day : ℕ) : Type 0 where
  pub year_fits : year < 10000
  pub month_fits : month < 100
  pub day_fits : day < 100

pub fits_digits : (year month day : ℕ) → IsCivilDate (pos year) month day → FitsDigits year month day
fits_digits year month day civil =
    let year_in = civil.0.1 in
    let month_in = civil.1 in
    let day_in = civil.2 in
    let most = days_in_month_bounds (pos year) month in
    record {
      year_fits = omega (arith, signed_arith);
      month_fits = omega (arith, signed_arith);
      day_fits = omega (arith, signed_arith);
    }
