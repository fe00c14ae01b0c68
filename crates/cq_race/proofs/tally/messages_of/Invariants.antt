use Rattle.std.proofs.Common.{◌≡◌}
use Rattle.cq_race.specs.Races.{messages_of}
use Rattle.cq_race.proofs.tally.messages_of.Given as goal

abbrev pub invariant-loop-number : goal.invariant-loop-number
invariant-loop-number l = l.messages.items ≡ messages_of l.writer l.number
