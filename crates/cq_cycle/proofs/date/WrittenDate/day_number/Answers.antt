use Rattle.std.proofs.Common.{rules}
use Rattle.cq_cycle.proofs.date.WrittenDate.day_number.Goals as goal

pub returns-clause-found : goal.returns-clause-found
returns-clause-found c = search rules
