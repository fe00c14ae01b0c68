use Rattle.std.proofs.Common.{◌+◌, ◌≤◌}
use Rattle.cq_bench.specs.Counts.{messages_appended}
use Rattle.cq_words.specs.Values.{IsOf}
use Rattle.cq_bench.proofs.appending.append_rest.Given as goal

abbrev pub invariant-loop : goal.invariant-loop
invariant-loop l =
    IsOf l.queue l.appender × (messages_appended l.fn.appender + l.counter ≤ messages_appended l.appender)
