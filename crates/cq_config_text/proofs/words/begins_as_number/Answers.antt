use Rattle.std.proofs.Common.{arith, ◌≡◌, length}
use Rattle.std.proofs.lemmas.Bool.Decides.{nat_tests}
use Rattle.cq_config_text.proofs.WordLemmas.{number_begins}
use Rattle.cq_config_text.proofs.words.begins_as_number.Goals as goal

pub returns-then-is_empty-clause-only : goal.returns-then-is_empty-clause-only
returns-then-is_empty-clause-only c number fits spelled =
    let begins = number_begins c.args.word.now number fits spelled in
    grind (arith, nat_tests)

pub returns-then-word-eq48-clause-only : goal.returns-then-word-eq48-clause-only
returns-then-word-eq48-clause-only c number fits spelled =
    let begins = number_begins c.args.word.now number fits spelled in
    let one : length c.args.word.now ≡ 1 = begins.alone c.if-word-eq48.true in
    grind (arith, nat_tests)

pub returns-clause-only : goal.returns-clause-only
returns-clause-only c number fits spelled =
    let begins = number_begins c.args.word.now number fits spelled in
    let says = c.is_ascii_digit.ensures.value in
    grind (arith, nat_tests)

pub returns-then-word-eq48-clause-alone : goal.returns-then-word-eq48-clause-alone
returns-then-word-eq48-clause-alone c alone zero = grind (arith, nat_tests)
