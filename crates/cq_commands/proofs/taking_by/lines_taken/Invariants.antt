use Rattle.cq_commands.proofs.TakingByLemmas.{HasCome}
use Rattle.cq_commands.proofs.taking_by.lines_taken.Given as goal

-- the lines of those that came
abbrev pub invariant-messages : goal.invariant-messages
invariant-messages l = HasCome l.fn.reader l.reader l.fn.name l.fn.most l.left l.lines.items

abbrev pub decreases-messages : goal.decreases-messages
decreases-messages l = l.left
