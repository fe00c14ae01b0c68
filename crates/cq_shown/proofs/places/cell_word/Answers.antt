use Rattle.std.proofs.Common.{rules}
use Rattle.cq_shown.proofs.places.cell_word.Goals as goal

pub returns-clause-value : goal.returns-clause-value
returns-clause-value c = search rules

pub returns-clause-lawful : goal.returns-clause-lawful
returns-clause-lawful c = search rules
