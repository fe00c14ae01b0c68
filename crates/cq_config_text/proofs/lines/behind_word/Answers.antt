use Rattle.std.proofs.Common.{◌∷◌, sym}
use Rattle.std.specs.Str.{bytes_eq}
use Rattle.cq_config_text.proofs.CutLemmas.{not_false, not_true}
use Rattle.cq_config_text.proofs.LineLemmas.{form_behind, form_of_other, form_of_word}
use Rattle.cq_config_text.proofs.lines.behind_word.Goals as goal

pub returns-in_err-word-clause-none : goal.returns-in_err-word-clause-none
returns-in_err-word-clause-none c =
    rw c.from_residual.ensures
    (λ test tests. form_of_word c.args.line.now c.in_err-word.ensures.none (bytes_eq c.args.key.now) test tests)

pub returns-then-ne-clause-none : goal.returns-then-ne-clause-none
returns-then-ne-clause-none c = λ test tests.
    let other = not_true (bytes_eq c.args.key.now c.in_ok-word.word.now) (sym c.if-ne.ensures) in
    form_of_other c.args.line.now c.in_ok-word.word.now c.in_ok-word.rest.now c.in_ok-word.ensures.parts
    c.args.key.now other (test ∷ tests)

pub returns-clause-form : goal.returns-clause-form
returns-clause-form c = λ tests.
    let same = not_false (bytes_eq c.args.key.now c.in_ok-word.word.now) (sym c.if-ne.ensures) in
    form_behind c.args.line.now c.in_ok-word.word.now c.in_ok-word.rest.now c.in_ok-word.ensures.parts c.args.key.now same
    tests
