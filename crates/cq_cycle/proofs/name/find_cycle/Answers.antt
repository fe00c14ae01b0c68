use Rattle.std.proofs.Common.{◌≡◌, ℕ, ◌+◌, ◌-◌, ◌*◌, ◌/◌, ◌%◌, arith, rules}
use Rattle.cq_cycle.specs.Cycle.{IsMoment, start_of}
use Rattle.cq_cycle.specs.Name.{IsDateOf}
use Rattle.cq_cycle.proofs.CalendarLemmas.{fits_digits}
use Rattle.cq_cycle.proofs.CycleLemmas.{cycle_of-between}
use Rattle.cq_cycle.proofs.name.find_cycle.Goals as goal

pub returns-in_err-date-clause-only : goal.returns-in_err-date-clause-only
returns-in_err-date-clause-only c cycle has name =
    let fits = fits_digits name.year name.month name.day name.date.civil in
    absurd (c.in_err-date.ensures.only name.year name.month name.day _
    fits.year_fits fits.month_fits fits.day_fits name.spelled)

pub returns-in_err-day-clause-only : goal.returns-in_err-day-clause-only
returns-in_err-day-clause-only c cycle has name =
    let fits = fits_digits name.year name.month name.day name.date.civil in
    let taken = c.in_ok-date.ensures.only name.year name.month name.day _
    fits.year_fits fits.month_fits fits.day_fits name.spelled in
    let number : ℕ = start_of c.args.roll c.args.epoch cycle / 86_400_000 in
    let written = c.in_ok-date.date in
    let date : IsDateOf number written.year written.month written.day = rw (taken.0, taken.1, taken.2) name.date in
    let some = c.in_err-day.ensures.only number date in
    absurd cc

pub returns-clause-only : goal.returns-clause-only
returns-clause-only c cycle has name =
    let fits = fits_digits name.year name.month name.day name.date.civil in
    let taken = c.in_ok-date.ensures.only name.year name.month name.day _
    fits.year_fits fits.month_fits fits.day_fits name.spelled in
    let start : ℕ = start_of c.args.roll c.args.epoch cycle in
    let written = c.in_ok-date.date in
    let date : IsDateOf (start / 86_400_000) written.year written.month written.day =
    rw (taken.0, taken.1, taken.2) name.date in
    let some = c.in_ok-day.ensures.only (start / 86_400_000) date in
    let day : c.in_ok-day.day ≡ start / 86_400_000 = cc in
    let time = c.in_ok-time.ensures.only (start % 86_400_000) (omega arith) taken.3 in
    let begun = time.0 in
    let not_over = time.1 in
    let last : ℕ = c.in_ok-day.day * 86_400_000 + c.in_ok-time.time + (c.millis.result - 1) in
    let same = cycle_of-between c.args.roll c.args.epoch cycle last (omega arith) (omega arith) in
    let moment : IsMoment c.args.roll c.args.epoch last =
    record { begun = omega arith; in_time = search rules; in_range = rw same has.in_range } in
    grind arith
