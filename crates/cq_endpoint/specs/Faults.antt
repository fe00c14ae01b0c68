-- Why calls on names and cycles are refused that ask for what the endpoint has not seen.
use Rattle.std.specs.Prelude.{◌≡◌, ℕ, ◌<◌, ◌≤◌, List}
use Rattle.cq_endpoint.specs.declared.fault.SeekFault.{SeekFault}
use Rattle.cq_endpoint.specs.declared.fault.SeekFault.TheVariants as fault
use Rattle.cq_tail.specs.Names.{IsDeclared}
use Rattle.cq_tail.specs.Tailers.{TailerFacts}
use Rattle.cq_words.specs.Values.{QueueFacts}

-- a name was not moved to a position, and the tailer did nothing: the position is behind the end that it has seen, or it is
-- not and the queue declares no such name
abbrev pub SeekFails : QueueFacts → TailerFacts → TailerFacts → List ℕ → ℕ → SeekFault → Type 0
SeekFails queue old new name to fault.NotSeen = (old.caller.seen_end < to) × (new ≡ old)
SeekFails queue old new name to fault.NoSuchName =
    (to ≤ old.caller.seen_end) × (¬ IsDeclared queue name) × (new ≡ old)
