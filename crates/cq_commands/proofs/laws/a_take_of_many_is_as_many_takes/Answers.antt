use Rattle.cq_contents.proofs.FewLemmas.{few_in}
use Rattle.cq_commands.proofs.TakingByLemmas.{as_many_takes}
use Rattle.cq_commands.proofs.laws.a_take_of_many_is_as_many_takes.Goals as goal

pub returns : goal.returns
returns c most old new name messages settings lawful declared turn =
    as_many_takes most old new name messages settings.names.distinct lawful.rising
    (few_in old.journal.settings old.journal.contents.lists settings.layout lawful.held) lawful.declared declared turn
