use Rattle.cq_race.proofs.WithinLemmas.{both-counted}
use Rattle.cq_race.proofs.tally.in_order_for_both.Goals as goal

pub returns : goal.returns
returns c = rw c.min.ensures (both-counted _ _ _ _ _ c.in_order.ensures c.in_order-2.ensures)
