use Rattle.std.proofs.Common.{[], ◌∷◌, ◌∙◌, sym}
use Rattle.cq_config_text.specs.ConfigText.{is_roll}
use Rattle.cq_config_text.proofs.LineLemmas.{roll_found}
use Rattle.cq_config_text.proofs.lines.roll_in.Goals as goal

pub returns-in_err-behind_word-clause-test : goal.returns-in_err-behind_word-clause-test
returns-in_err-behind_word-clause-test c =
    rw c.from_residual.ensures (sym (c.in_err-behind_word.ensures.none is_roll []))

pub returns-clause-test : goal.returns-clause-test
returns-clause-test c =
    roll_found c.in_ok-behind_word.field-0.now c.roll_of.result c.roll_of.ensures.found c.roll_of.ensures.only
    ∙ sym (c.in_ok-behind_word.ensures.form (is_roll ∷ []))
