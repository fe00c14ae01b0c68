use Rattle.std.proofs.Common.{take}
use Rattle.cq_race.specs.Races.{IsInOrder}
use Rattle.cq_race.proofs.tally.in_order.Given as goal

abbrev pub invariant-loop-message : goal.invariant-loop-message
invariant-loop-message l = IsInOrder l.messages (take l.message-index l.read) l.count
