use Rattle.std.proofs.Common.{refl}
use Rattle.cq_shelf.proofs.Waits.{again, at_last, once}
use Rattle.cq_shelf.specs.Reads.{NextOn}
use Rattle.cq_shelf.specs.Waits.{NextWaits}
use Rattle.cq_shelf.specs.Ways.{stays}
use Rattle.cq_shelf.proofs.reader.ShelfReader.next_waiting.Goals as goal

pub returns-in_default : goal.returns-in_default
returns-in_default g c = once NextOn NextWaits c.args.self.now.place c.next.new.self.place c.next.result c.next.ensures

pub loop-init : goal.loop-init
loop-init g c = (0, stays)

pub returns-then-not-next_waits : goal.returns-then-not-next_waits
returns-then-not-next_waits g c = at_last NextOn NextWaits c.args.self.now.place c.loop.self.place c.next-answer.new.self.place c.loop.invariant c.next-answer.result c.next-answer.ensures

pub returns-then-not-sleep : goal.returns-then-not-sleep
returns-then-not-sleep g c = at_last NextOn NextWaits c.args.self.now.place c.loop.self.place c.next-answer.new.self.place c.loop.invariant c.next-answer.result c.next-answer.ensures

pub loop-preserved : goal.loop-preserved
loop-preserved g c = again NextOn NextWaits c.args.self.now.place c.loop.self.place c.next-answer.new.self.place c.loop.invariant c.next-answer.result c.next-answer.ensures (c.if-not-next_waits.ensures refl)

pub loop-preserved-else-not-sleep-2 : goal.loop-preserved-else-not-sleep-2
loop-preserved-else-not-sleep-2 g c = again NextOn NextWaits c.args.self.now.place c.loop.self.place c.next-answer.new.self.place c.loop.invariant c.next-answer.result c.next-answer.ensures (c.if-not-next_waits.ensures refl)
