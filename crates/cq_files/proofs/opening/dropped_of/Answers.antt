use Rattle.std.proofs.Common.{rules}
use Rattle.cq_files.proofs.opening.dropped_of.Goals as goal

pub returns-in-Last : goal.returns-in-Last
returns-in-Last c = search rules
