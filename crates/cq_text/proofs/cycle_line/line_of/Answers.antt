use Rattle.std.proofs.Common.{rules}
use Rattle.cq_text.proofs.cycle_line.line_of.Goals as goal

pub returns-clause-line : goal.returns-clause-line
returns-clause-line c = search rules
