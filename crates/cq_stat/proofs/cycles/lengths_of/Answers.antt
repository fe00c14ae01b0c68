use Rattle.std.proofs.Common.{ap, length, map, take_all, ◌∙◌}
use Rattle.cq_stat.proofs.cycles.lengths_of.Goals as goal

pub returns : goal.returns
returns c =
    c.loop-message.invariant ∙ ap (map length) (take_all c.loop-message.message-index c.args.messages.now c.loop-message-test.false)
