use Rattle.std.proofs.Common.{◌+◌, ◌≤◌}
use Rattle.cq_bench.specs.Counts.{messages_appended}
use Rattle.cq_words.specs.Values.{IsOf}
use Rattle.cq_bench.proofs.appending.append_all.Given as goal

abbrev pub invariant-loop-done : goal.invariant-loop-done
invariant-loop-done l =
    IsOf l.queue l.appender × (messages_appended l.fn.appender + l.done ≤ messages_appended l.appender)
