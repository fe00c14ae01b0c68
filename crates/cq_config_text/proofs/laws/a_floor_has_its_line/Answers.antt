use Rattle.std.proofs.Common.{refl}
unfoldable use Rattle.std.specs.Fmt.{digits}
use Rattle.cq_config_text.specs.ConfigText.{fault_from, first_fault, has_form}
use Rattle.cq_config_text.proofs.laws.a_floor_has_its_line.Goals as goal

pub returns-clause-text : goal.returns-clause-text
unfolding digits
returns-clause-text c = refl

pub returns-clause-whole : goal.returns-clause-whole
unfolding digits fault_from first_fault has_form
returns-clause-whole c = refl

pub returns-clause-first : goal.returns-clause-first
unfolding digits fault_from first_fault has_form
returns-clause-first c = refl

pub returns-clause-once : goal.returns-clause-once
unfolding digits fault_from first_fault has_form
returns-clause-once c = refl

pub returns-clause-behind : goal.returns-clause-behind
unfolding digits fault_from first_fault has_form
returns-clause-behind c = refl
