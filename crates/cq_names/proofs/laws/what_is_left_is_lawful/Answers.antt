use Rattle.cq_names.proofs.LeftLemmas.{contents_left, settings_left}
use Rattle.cq_names.proofs.laws.what_is_left_is_lawful.Goals as goal

pub returns-clause-settings : goal.returns-clause-settings
returns-clause-settings c change settings contents edit lawful is = settings_left change settings contents edit lawful is

pub returns-clause-contents : goal.returns-clause-contents
returns-clause-contents c change settings contents edit can paired is = contents_left change settings contents edit can paired is
