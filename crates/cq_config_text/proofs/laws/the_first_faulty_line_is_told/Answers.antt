use Rattle.std.proofs.Common.{refl}
unfoldable use Rattle.std.specs.Fmt.{digits}
use Rattle.cq_config_text.specs.ConfigText.{fault_from, first_fault, has_form}
use Rattle.cq_config_text.proofs.laws.the_first_faulty_line_is_told.Goals as goal

pub returns-clause-empty : goal.returns-clause-empty
unfolding digits fault_from first_fault has_form
returns-clause-empty c = refl

pub returns-clause-version : goal.returns-clause-version
unfolding digits fault_from first_fault has_form
returns-clause-version c = refl

pub returns-clause-roll : goal.returns-clause-roll
unfolding digits fault_from first_fault has_form
returns-clause-roll c = refl

pub returns-clause-zeros : goal.returns-clause-zeros
unfolding digits fault_from first_fault has_form
returns-clause-zeros c = refl

pub returns-clause-large : goal.returns-clause-large
unfolding digits fault_from first_fault has_form
returns-clause-large c = refl

pub returns-clause-spaces : goal.returns-clause-spaces
unfolding digits fault_from first_fault has_form
returns-clause-spaces c = refl

pub returns-clause-short : goal.returns-clause-short
unfolding digits fault_from first_fault has_form
returns-clause-short c = refl

pub returns-clause-name : goal.returns-clause-name
unfolding digits fault_from first_fault has_form
returns-clause-name c = refl

pub returns-clause-cut : goal.returns-clause-cut
unfolding digits fault_from first_fault has_form
returns-clause-cut c = refl
