use Rattle.cq_shelf.specs.Writes.{AppendsOn}
use Rattle.cq_shelf.specs.Waits.{Again, AppendWaits}
use Rattle.cq_shelf.specs.Ways.{Comes}
use Rattle.cq_shelf.proofs.writer.ShelfWriter.append_waiting.Given as goal

-- each try before led to another one
abbrev pub invariant-loop : goal.invariant-loop
invariant-loop g l = Comes (Again (AppendsOn l.fn.moment l.fn.bytes) AppendWaits) l.fn.self.place l.self.place
