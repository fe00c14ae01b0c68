use Rattle.std.proofs.Common.{rules}
use Rattle.cq_orders.proofs.order.Order.folder.Goals as goal

pub returns-in-Echo : goal.returns-in-Echo
returns-in-Echo c = search rules
