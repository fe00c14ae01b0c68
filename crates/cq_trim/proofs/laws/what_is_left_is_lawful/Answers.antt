use Rattle.cq_trim.proofs.KeptLemmas.{lawful_still}
use Rattle.cq_trim.proofs.laws.what_is_left_is_lawful.Goals as goal

pub returns : goal.returns
returns c settings contents floor lawful low = lawful_still settings contents floor lawful low
