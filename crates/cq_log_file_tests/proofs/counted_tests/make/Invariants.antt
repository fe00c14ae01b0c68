use Rattle.cq_log.specs.Log.{IsSound}
use Rattle.cq_log_file_tests.proofs.counted_tests.make.Given as goal

abbrev pub invariant-loop-step : goal.invariant-loop-step
invariant-loop-step g l = IsSound g.D.Device.seen g.D.Device.may_leave g.D.Device.fault g.D.Device.supposed l.log
