use Rattle.std.proofs.Common.{◌≡◌, take}
use Rattle.cq_saved.proofs.copying.copied_messages.Given as goal

-- copies of the messages so far
abbrev pub invariant-loop-i : goal.invariant-loop-i
invariant-loop-i l = l.copies.items ≡ take l.i l.messages
