use Rattle.cq_walks.proofs.Seen.{first_low}
use Rattle.cq_steps_tests.proofs.near_tests.start.Goals as goal

pub enter_slot-first-requires-clause-begun : goal.enter_slot-first-requires-clause-begun
enter_slot-first-requires-clause-begun c = first_low c.args.caller.now.view
