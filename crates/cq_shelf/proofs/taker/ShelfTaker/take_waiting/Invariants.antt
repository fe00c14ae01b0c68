use Rattle.cq_shelf.specs.Reads.{TakenOn}
use Rattle.cq_shelf.specs.Waits.{Again, TakeWaits}
use Rattle.cq_shelf.specs.Ways.{Comes}
use Rattle.cq_shelf.proofs.taker.ShelfTaker.take_waiting.Given as goal

-- each try before led to another one
abbrev pub invariant-loop : goal.invariant-loop
invariant-loop g l = Comes (Again TakenOn TakeWaits) l.fn.self l.self
