use Rattle.std.proofs.Common.{◌+◌, ◌≤◌}
use Rattle.cq_bench.specs.Counts.{messages_read}
use Rattle.cq_words.specs.Values.{IsOf}
use Rattle.cq_bench.proofs.reading.wait_for_copies.Given as goal

abbrev pub invariant-loop : goal.invariant-loop
invariant-loop l =
    IsOf l.queue l.tailer.caller × (messages_read l.fn.tailer.caller + l.counter ≤ messages_read l.tailer.caller)
