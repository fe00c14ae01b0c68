use Rattle.std.proofs.Common.{refl}
use Rattle.cq_shelf.proofs.Waits.{again, at_last, once}
use Rattle.cq_shelf.specs.Writes.{AppendsOn}
use Rattle.cq_shelf.specs.Waits.{AppendWaits}
use Rattle.cq_shelf.specs.Ways.{stays}
use Rattle.cq_shelf.proofs.writer.ShelfWriter.append_waiting.Goals as goal

pub returns-in_default : goal.returns-in_default
returns-in_default g c = once (AppendsOn c.args.moment c.args.bytes.now) AppendWaits c.args.self.now.place c.append.new.self.place c.append.result c.append.ensures

pub loop-init : goal.loop-init
loop-init g c = (0, stays)

pub returns-then-not-append_waits : goal.returns-then-not-append_waits
returns-then-not-append_waits g c = at_last (AppendsOn c.args.moment c.args.bytes.now) AppendWaits c.args.self.now.place c.loop.self.place c.append-answer.new.self.place c.loop.invariant c.append-answer.result c.append-answer.ensures

pub returns-then-not-sleep : goal.returns-then-not-sleep
returns-then-not-sleep g c = at_last (AppendsOn c.args.moment c.args.bytes.now) AppendWaits c.args.self.now.place c.loop.self.place c.append-answer.new.self.place c.loop.invariant c.append-answer.result c.append-answer.ensures

pub loop-preserved : goal.loop-preserved
loop-preserved g c = again (AppendsOn c.args.moment c.args.bytes.now) AppendWaits c.args.self.now.place c.loop.self.place c.append-answer.new.self.place c.loop.invariant c.append-answer.result c.append-answer.ensures (c.if-not-append_waits.ensures refl)
