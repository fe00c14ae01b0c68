use Rattle.cq_trim.proofs.KeptLemmas.{first_still, left_still, read_still}
use Rattle.cq_trim.proofs.laws.removed_cycles_are_not_missed.Goals as goal

pub returns-clause-readable : goal.returns-clause-readable
returns-clause-readable c settings contents floor lawful held = read_still settings contents floor lawful held

pub returns-clause-left : goal.returns-clause-left
returns-clause-left c settings contents floor position lawful held = left_still settings contents floor position lawful held

pub returns-clause-first : goal.returns-clause-first
returns-clause-first c settings contents floor place lawful held high = first_still settings contents floor place lawful held high
