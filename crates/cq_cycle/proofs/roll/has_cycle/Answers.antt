use Rattle.std.proofs.Common.{rules}
use Rattle.cq_cycle.proofs.roll.has_cycle.Goals as goal

pub returns-then-epoch-le-LAST_MOMENT : goal.returns-then-epoch-le-LAST_MOMENT
returns-then-epoch-le-LAST_MOMENT c = search rules
