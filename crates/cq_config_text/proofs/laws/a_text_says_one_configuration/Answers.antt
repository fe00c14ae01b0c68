use Rattle.cq_config_text.proofs.ConfigLemmas.{one_config}
use Rattle.cq_config_text.proofs.laws.a_text_says_one_configuration.Goals as goal

pub returns : goal.returns
returns c = one_config
