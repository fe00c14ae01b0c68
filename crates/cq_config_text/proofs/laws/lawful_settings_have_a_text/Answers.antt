use Rattle.std.proofs.Common.{refl}
use Rattle.cq_config_text.proofs.TextLemmas.{lawful_writable}
use Rattle.cq_config_text.proofs.laws.lawful_settings_have_a_text.Goals as goal

pub returns : goal.returns
returns c settings positions floor lawful paired fits low = record {
  writable = lawful_writable settings positions floor lawful paired fits low;
  spelled = refl;
}
