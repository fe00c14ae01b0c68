use Rattle.std.proofs.Common.{rules}
use Rattle.cq_cycle.proofs.roll.cycle_of.Goals as goal

pub returns-then-cycle-from-clause-value : goal.returns-then-cycle-from-clause-value
returns-then-cycle-from-clause-value c = search rules
