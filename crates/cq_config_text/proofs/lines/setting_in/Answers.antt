use Rattle.std.proofs.Common.{[], ◌∷◌, ◌∙◌, sym}
use Rattle.cq_config_text.specs.ConfigText.{is_number}
use Rattle.cq_config_text.proofs.LineLemmas.{number_found}
use Rattle.cq_config_text.proofs.lines.setting_in.Goals as goal

pub returns-in_err-behind_word-clause-test : goal.returns-in_err-behind_word-clause-test
returns-in_err-behind_word-clause-test c =
    rw c.from_residual.ensures (sym (c.in_err-behind_word.ensures.none is_number []))

pub returns-clause-test : goal.returns-clause-test
returns-clause-test c =
    number_found c.in_ok-behind_word.field-0.now c.number_of.result c.number_of.ensures.found c.number_of.ensures.only
    ∙ sym (c.in_ok-behind_word.ensures.form (is_number ∷ []))
