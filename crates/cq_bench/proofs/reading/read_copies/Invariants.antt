use Rattle.std.proofs.Common.{◌+◌, ◌≤◌}
use Rattle.cq_bench.specs.Counts.{messages_read}
use Rattle.cq_words.specs.Values.{IsOf}
use Rattle.cq_bench.proofs.reading.read_copies.Given as goal

abbrev pub invariant-loop-done : goal.invariant-loop-done
invariant-loop-done l =
    IsOf l.queue l.tailer.caller × (messages_read l.fn.tailer.caller + l.done ≤ messages_read l.tailer.caller)
