use Rattle.std.proofs.Common.{◌++◌}
use Rattle.cq_cycle.specs.Name.{two_digits}
use Rattle.cq_cycle.proofs.date.WrittenDate.take_from.Goals as goal

pub returns-in_err-day-clause-only : goal.returns-in_err-day-clause-only
returns-in_err-day-clause-only c year month day rest year_fits month_fits day_fits spelled =
    let behind_month = two_digits day ++ rest in
    let year_taken = c.in_ok-year.ensures.only year (two_digits month ++ behind_month) year_fits spelled in
    let month_taken = c.in_ok-month.ensures.only month behind_month month_fits year_taken.1 in
    absurd (c.in_err-day.ensures.only day rest day_fits month_taken.1)
