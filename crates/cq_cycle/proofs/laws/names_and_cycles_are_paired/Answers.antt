use Rattle.std.proofs.Common.{◌≡◌, ◌/◌, ◌∙◌, sym}
use Rattle.cq_cycle.specs.declared.roll.Roll.TheVariants.{Daily}
use Rattle.cq_cycle.specs.Cycle.{length_of, start_of}
use Rattle.cq_cycle.proofs.NameLemmas.{same_date, date_text_injective, same_cycle}
use Rattle.cq_cycle.proofs.laws.names_and_cycles_are_paired.Goals as goal

pub returns-clause-one_name : goal.returns-clause-one_name
returns-clause-one_name c roll epoch cycle name other one two =
    let same = same_date _ one.year one.month one.day two.year two.month two.day one.date two.date in
    one.spelled ∙ rw (same.year_same, same.month_same, same.day_same) (sym two.spelled)

pub returns-clause-one_cycle : goal.returns-clause-one_cycle
returns-clause-one_cycle c roll epoch cycle other name one two =
    let same = date_text_injective one.year one.month one.day two.year two.month two.day _ _
    (sym one.spelled ∙ two.spelled) in
    let date = same.0 in
    let one_day = one.date.counted in
    let two_day = two.date.counted in
    let day : start_of roll epoch cycle / length_of Daily ≡ start_of roll epoch other / length_of Daily = cc in
    same_cycle roll epoch cycle other day same.1
