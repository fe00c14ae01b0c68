use Rattle.std.proofs.Common.{[], None, Some, refl, sym}
use Rattle.cq_config_text.specs.ConfigText.{is_name, is_number}
use Rattle.cq_config_text.proofs.LineLemmas.{declared_form, form_of_word, name_fails, name_passes, number_found}
use Rattle.cq_config_text.proofs.lines.declared_in.Goals as goal

pub returns-in_err-name-clause-test : goal.returns-in_err-name-clause-test
returns-in_err-name-clause-test c =
    rw c.from_residual.ensures (sym (form_of_word c.args.words.now c.in_err-name.ensures.none is_name is_number []))

pub returns-in_err-name-2-clause-test : goal.returns-in_err-name-2-clause-test
returns-in_err-name-2-clause-test c =
    rw c.from_residual-in_err-name-2.ensures
    (declared_form c.args.words.now c.in_ok-name.name.now c.in_ok-name.position.now c.in_ok-name.ensures.parts _ _
    (name_fails c.in_ok-name.name.now c.in_err-name-2.ensures.only) refl)

pub returns-in_err-position-clause-test : goal.returns-in_err-position-clause-test
returns-in_err-position-clause-test c =
    rw c.from_residual-in_err-position.ensures
    (declared_form c.args.words.now c.in_ok-name.name.now c.in_ok-name.position.now c.in_ok-name.ensures.parts _ _
    (name_passes c.in_ok-name.name.now c.in_ok-name-2.ensures.found.1)
    (sym (number_found c.in_ok-name.position.now None c.in_err-position.ensures.found c.in_err-position.ensures.only)))

pub returns-clause-test : goal.returns-clause-test
returns-clause-test c =
    declared_form c.args.words.now c.in_ok-name.name.now c.in_ok-name.position.now c.in_ok-name.ensures.parts _ _
    (name_passes c.in_ok-name.name.now c.in_ok-name-2.ensures.found.1)
    (sym (number_found c.in_ok-name.position.now (Some c.in_ok-position.position) c.in_ok-position.ensures.found
    c.in_ok-position.ensures.only))
