use Rattle.std.proofs.Common.{refl}
use Rattle.cq_shelf.proofs.Waits.{again, at_last, once}
use Rattle.cq_shelf.specs.Reads.{TakenOn}
use Rattle.cq_shelf.specs.Waits.{TakeWaits}
use Rattle.cq_shelf.specs.Ways.{stays}
use Rattle.cq_shelf.proofs.taker.ShelfTaker.take_waiting.Goals as goal

pub returns-in_default : goal.returns-in_default
returns-in_default g c = once TakenOn TakeWaits c.args.self.now c.take.new.self c.take.result c.take.ensures

pub loop-init : goal.loop-init
loop-init g c = (0, stays)

pub returns-then-not-take_waits : goal.returns-then-not-take_waits
returns-then-not-take_waits g c = at_last TakenOn TakeWaits c.args.self.now c.loop.self c.take-answer.new.self c.loop.invariant c.take-answer.result c.take-answer.ensures

pub returns-then-not-sleep : goal.returns-then-not-sleep
returns-then-not-sleep g c = at_last TakenOn TakeWaits c.args.self.now c.loop.self c.take-answer.new.self c.loop.invariant c.take-answer.result c.take-answer.ensures

pub loop-preserved : goal.loop-preserved
loop-preserved g c = again TakenOn TakeWaits c.args.self.now c.loop.self c.take-answer.new.self c.loop.invariant c.take-answer.result c.take-answer.ensures (c.if-not-take_waits.ensures refl)

pub loop-preserved-else-not-sleep-2 : goal.loop-preserved-else-not-sleep-2
loop-preserved-else-not-sleep-2 g c = again TakenOn TakeWaits c.args.self.now c.loop.self c.take-answer.new.self c.loop.invariant c.take-answer.result c.take-answer.ensures (c.if-not-take_waits.ensures refl)
