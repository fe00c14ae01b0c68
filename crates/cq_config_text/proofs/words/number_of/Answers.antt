use Rattle.std.proofs.Common.{◌∙◌, refl}
use Rattle.cq_config_text.proofs.WordLemmas.{number_is_parsed, number_is_text, parsed_number}
use Rattle.cq_config_text.proofs.words.number_of.Goals as goal

pub returns-in_err-text_of-clause-only : goal.returns-in_err-text_of-clause-only
returns-in_err-text_of-clause-only c number fits spelled =
    let clash = c.in_err-text_of.ensures.only (number_is_text c.args.word.now number fits spelled) in
    cc

pub returns-clause-only : goal.returns-clause-only
returns-clause-only c number fits spelled =
    c.ok.ensures.value
    ∙ number_is_parsed c.args.word.now c.in_ok-text_of.field-0.now c.in_ok-text_of.ensures.found c.parse.result number
    c.parse.ensures.value.0 fits spelled

pub returns-clause-found : goal.returns-clause-found
returns-clause-found c =
    let begins = c.if-not-begins_as_number.ensures in
    rw c.ok.ensures.value
    (parsed_number c.args.word.now c.in_ok-text_of.field-0.now c.in_ok-text_of.ensures.found c.parse.result
    c.parse.ensures.value.0 (begins.digit refl) (begins.alone refl))
