use Rattle.cq_commands.proofs.ComingLemmas.{places_in_turn, readable_rises, rounds_in_turn}
use Rattle.cq_contents.proofs.FewLemmas.{few_in}
use Rattle.cq_commands.proofs.laws.a_round_after_a_round_prints_what_one_prints.Goals as goal

pub returns-clause-printed : goal.returns-clause-printed
returns-clause-printed c place until gone old more rise = rounds_in_turn place until gone old more rise

pub returns-clause-place : goal.returns-clause-place
returns-clause-place c place one other = places_in_turn place one other

pub returns-clause-rising : goal.returns-clause-rising
returns-clause-rising c settings contents layout lawful =
    readable_rises contents lawful.rising (few_in settings contents.lists layout lawful.held)
