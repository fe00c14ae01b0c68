use Rattle.cq_config_text.proofs.WordLemmas.{name_is_text}
use Rattle.cq_config_text.proofs.words.name_of.Goals as goal

pub returns-clause-only : goal.returns-clause-only
returns-clause-only c is = c.text_of.ensures.only (name_is_text c.args.word.now is)
