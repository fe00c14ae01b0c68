use Rattle.std.proofs.Common.{rules}
use Rattle.cq_command_line.proofs.orders.stat_order.Goals as goal

pub returns-clause-values : goal.returns-clause-values
returns-clause-values c = search rules
