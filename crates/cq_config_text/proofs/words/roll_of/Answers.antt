use Rattle.cq_config_text.proofs.WordLemmas.{roll_is_text}
use Rattle.cq_config_text.proofs.words.roll_of.Goals as goal

pub returns-in_err-text_of-clause-only : goal.returns-in_err-text_of-clause-only
returns-in_err-text_of-clause-only c roll spelled =
    let clash = c.in_err-text_of.ensures.only (roll_is_text c.args.word.now roll spelled) in
    cc
