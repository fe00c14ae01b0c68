use Rattle.std.proofs.Common.{refl}
unfoldable use Rattle.std.specs.Fmt.{digits}
use Rattle.cq_config_text.specs.ConfigText.{fault_from, first_fault, has_form}
use Rattle.cq_config_text.proofs.laws.a_configuration_has_its_text.Goals as goal

pub returns-clause-text : goal.returns-clause-text
unfolding digits
returns-clause-text c = refl

pub returns-clause-whole : goal.returns-clause-whole
unfolding digits fault_from first_fault has_form
returns-clause-whole c = refl

pub returns-clause-new : goal.returns-clause-new
unfolding digits
returns-clause-new c = refl

pub returns-clause-whole_new : goal.returns-clause-whole_new
unfolding digits fault_from first_fault has_form
returns-clause-whole_new c = refl
