use Rattle.std.proofs.Common.{rules}
use Rattle.jiff_core.proofs.DateLemmas.{civil}
use Rattle.cq_cycle.proofs.CalendarLemmas.{year_from_1970}
use Rattle.cq_cycle.proofs.date.WrittenDate.of_day.Goals as goal

pub overflow_cast-result : goal.overflow_cast-result
overflow_cast-result c =
    let date = c.unwrap-date.result in
    let late = year_from_1970 date.year date.month date.day c.args.number (civil date) (search rules) in
    search rules

pub returns : goal.returns
returns c =
    let date = c.unwrap-date.result in
    let late = year_from_1970 date.year date.month date.day c.args.number (civil date) (search rules) in
    record { civil = search rules; counted = search rules }
