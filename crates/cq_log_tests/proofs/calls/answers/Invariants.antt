use Rattle.cq_log.specs.Log.{IsSound}
use Rattle.cq_log_tests.proofs.calls.answers.Given as goal

abbrev pub invariant-loop-call : goal.invariant-loop-call
invariant-loop-call g l = IsSound g.D.Device.seen g.D.Device.may_leave g.D.Device.fault g.D.Device.supposed l.log
