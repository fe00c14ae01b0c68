use Rattle.cq_log.specs.Log.{IsSound}
use Rattle.cq_log_file_tests.proofs.log_tests.put_all.Given as goal

abbrev pub invariant-loop-frame : goal.invariant-loop-frame
invariant-loop-frame g l = IsSound g.D.Device.seen g.D.Device.may_leave g.D.Device.fault g.D.Device.supposed l.log
