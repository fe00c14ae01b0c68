use Rattle.cq_config_text.proofs.ConfigLemmas.{text_at_no_fault}
use Rattle.cq_config_text.proofs.laws.a_text_of_settings_has_no_faulty_line.Goals as goal

pub returns : goal.returns
returns c = text_at_no_fault
