use Rattle.cq_shelf.specs.Reads.{NextOn}
use Rattle.cq_shelf.specs.Waits.{Again, NextWaits}
use Rattle.cq_shelf.specs.Ways.{Comes}
use Rattle.cq_shelf.proofs.reader.ShelfReader.next_waiting.Given as goal

-- each try before led to another one
abbrev pub invariant-loop : goal.invariant-loop
invariant-loop g l = Comes (Again NextOn NextWaits) l.fn.self.place l.self.place
