use Rattle.std.proofs.Common.{ap, sym}
use Rattle.cq_shown.specs.Plans.{settings_in}
use Rattle.cq_walks.proofs.Trails.{trail_looks, trail_on}
use Rattle.cq_steps_tests.proofs.looking.look.Goals as goal

pub look-requires-clause-at : goal.look-requires-clause-at
look-requires-clause-at c = trail_looks (settings_in c.args.queue.now.plan) c.args.caller.now.view c.args.trail.now
    (ap settings_in (sym c.requires.of.plan)) c.requires.trail

pub returns-clause-trail : goal.returns-clause-trail
returns-clause-trail c = trail_on (settings_in c.args.queue.now.plan) c.args.caller.now.view c.look.new.caller.view _
    c.args.trail.now c.seen_end-seen_end.ensures.caller.sound c.look.ensures.told.extends c.requires.trail
