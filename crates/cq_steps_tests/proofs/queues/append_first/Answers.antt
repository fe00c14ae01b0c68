use Rattle.cq_walks.proofs.Seen.{first_low}
use Rattle.cq_steps_tests.proofs.queues.append_first.Goals as goal

pub enter_slot-trail-requires-clause-begun : goal.enter_slot-trail-requires-clause-begun
enter_slot-trail-requires-clause-begun c = first_low c.args.caller.now.view
