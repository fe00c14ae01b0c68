use Rattle.std.proofs.Common.{[], ◌∷◌, ◌∙◌, sym}
use Rattle.cq_config_text.specs.ConfigText.{is_version}
use Rattle.cq_config_text.proofs.LineLemmas.{version_found}
use Rattle.cq_config_text.proofs.lines.version_in.Goals as goal

pub returns-in_err-behind_word-clause-test : goal.returns-in_err-behind_word-clause-test
returns-in_err-behind_word-clause-test c =
    rw c.from_residual.ensures (sym (c.in_err-behind_word.ensures.none is_version []))

pub returns-clause-test : goal.returns-clause-test
returns-clause-test c =
    version_found c.in_ok-behind_word.field-0.now c.named.result c.named.ensures.found c.named.ensures.only
    ∙ sym (c.in_ok-behind_word.ensures.form (is_version ∷ []))
