use Rattle.std.proofs.Common.{◌≡◌, length, map, take}
use Rattle.cq_stat.proofs.cycles.lengths_of.Given as goal

-- the lengths of the messages so far
abbrev pub invariant-loop-message : goal.invariant-loop-message
invariant-loop-message l = l.lengths.items ≡ map length (take l.message-index l.messages)
