use Rattle.std.proofs.Common.{[], ◌∷◌, ◌∙◌, sym}
use Rattle.cq_config_text.specs.ConfigText.{is_name, is_number}
use Rattle.cq_config_text.proofs.lines.name_in.Goals as goal

pub returns-in_err-behind_word-clause-test : goal.returns-in_err-behind_word-clause-test
returns-in_err-behind_word-clause-test c =
    rw c.from_residual.ensures (sym (c.in_err-behind_word.ensures.none is_name (is_number ∷ [])))

pub returns-clause-test : goal.returns-clause-test
returns-clause-test c =
    c.declared_in.ensures.test ∙ sym (c.in_ok-behind_word.ensures.form (is_name ∷ is_number ∷ []))
