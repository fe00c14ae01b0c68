-- What the calls say that move an endpoint, drop cycles, or take a name.
use Rattle.std.specs.Prelude.{◌≡◌, ◌≢◌, ◌⊎◌, ℕ, ◌<◌, ◌≤◌, List, Option, Some, None, Result, Ok, Err}
use Rattle.std.specs.Str.{IsUtf8}
use Rattle.cq_cycle.specs.Index.{cycle_in}
use Rattle.cq_endpoint.specs.Endpoints.{EndpointFacts, child, endpoint_of}
use Rattle.cq_endpoint.specs.Faults.{SeekFails}
use Rattle.cq_endpoint.specs.Meetings.{EndpointsMet}
use Rattle.cq_endpoint.specs.Reads.{TakeIntoSays}
use Rattle.cq_endpoint.specs.declared.answers.TakenInto.{TakenInto}
use Rattle.cq_endpoint.specs.declared.fault.NotSeen.{NotSeen}
use Rattle.cq_endpoint.specs.declared.fault.SeekFault.{SeekFault}
use Rattle.cq_endpoint.specs.declared.fault.SeekFault.TheVariants as unsought
use Rattle.cq_model.specs.declared.history.Answer.TheVariants.{Ends, Floor}
use Rattle.cq_model.specs.declared.history.Event.TheVariants.{DropBefore, End}
use Rattle.cq_tail.specs.Names.{NameFails, Seeks, TellsPosition}
use Rattle.cq_tail.specs.Tailers.{Answered, TailerFacts}
use Rattle.cq_model.specs.declared.direction.Direction.{Direction}
use Rattle.cq_model.specs.declared.direction.Direction.TheVariants as direction
use Rattle.cq_tail.specs.declared.answers.Sought.{Sought}
use Rattle.cq_tail.specs.declared.error.NoSuchName.{NoSuchName}
use Rattle.linnetshelf.specs.Makes.{parent_of}

-- the number that C has for a direction
abbrev pub direction_number : Direction → ℕ
direction_number direction.Forwards = 0
direction_number direction.Backwards = 1

-- no direction has this number
abbrev pub HasNoDirection : ℕ → Type 0
HasNoDirection number = (way : Direction) → direction_number way ≢ number

-- the endpoint reads the way now that has this number; or none has it, and nothing changed
abbrev pub Turns : EndpointFacts → EndpointFacts → ℕ → Option Direction → Type 0
Turns old new way (Some turned) = (direction_number turned ≡ way)
    × (new ≡ record old { tailer = record old.tailer { direction = turned } })
Turns old new way None = HasNoDirection way × (new ≡ old)

-- an endpoint that was split off moved to the end, which was answered to it; then it met the one that it was split off, which
-- has seen that end and stays where it is
pub record LooksUpEnd (old new : EndpointFacts) (end : ℕ) : Type 0 where
  pub looked : TailerFacts
  pub told : Answered old.queue (endpoint_of old.queue (child old.parent)).tailer looked End (Ends end) end
  pub other : EndpointFacts
  pub met : EndpointsMet (parent_of old) (record (endpoint_of old.queue (child old.parent)) { tailer = looked }) new other
  pub stays : new.tailer ≡ record old.tailer { caller = new.tailer.caller }
  pub seen : end ≤ new.tailer.caller.seen_end

-- the end was looked up; or no endpoint can be split off, and nothing changed
abbrev pub SeesEnd : EndpointFacts → EndpointFacts → Option ℕ → Type 0
SeesEnd old new (Some end) = LooksUpEnd old new end
SeesEnd old new None = new ≡ old

-- the cycles below this one were dropped; or it lies behind the end that the endpoint has seen, and nothing changed
abbrev pub Drops : EndpointFacts → EndpointFacts → ℕ → Result ℕ NotSeen → Type 0
Drops old new cycle (Ok floor) = (cycle ≤ cycle_in old.tailer.caller.seen_end)
    × Answered old.queue old.tailer new.tailer (DropBefore cycle) (Floor floor) old.tailer.cursor
Drops old new cycle (Err e) = (cycle_in old.tailer.caller.seen_end < cycle) × (new ≡ old)

-- the bytes of a name are no text, which no name of a queue is, and nothing changed
abbrev pub IsNoText : EndpointFacts → EndpointFacts → List ℕ → Type 0
IsNoText old new name = (¬ IsUtf8 name) × (new ≡ old)

-- the endpoint was told where the name stands, or that there is no such name
abbrev pub TellsName : EndpointFacts → EndpointFacts → List ℕ → Result ℕ NoSuchName → Type 0
TellsName old new name (Ok position) = TellsPosition old.queue old.tailer new.tailer name position
TellsName old new name (Err e) = NameFails old.queue old.tailer new.tailer name ⊎ IsNoText old new name

-- the endpoint asked to move the name, or was told why it did not
abbrev pub SeeksName : EndpointFacts → EndpointFacts → List ℕ → ℕ → ℕ → Result Sought SeekFault → Type 0
SeeksName old new name from to (Ok sought) = Seeks old.queue old.tailer new.tailer name from to sought
    × (to ≤ old.tailer.caller.seen_end)
SeeksName old new name from to (Err unsought.NotSeen) =
    SeekFails old.queue old.tailer new.tailer name to unsought.NotSeen
SeeksName old new name from to (Err unsought.NoSuchName) =
    SeekFails old.queue old.tailer new.tailer name to unsought.NoSuchName ⊎ IsNoText old new name

-- the endpoint took the next message of the name into a room, or was told why it did not
abbrev pub TakesName : EndpointFacts → EndpointFacts → List ℕ → List ℕ → List ℕ → Result TakenInto NoSuchName → Type 0
TakesName old new name room full (Ok took) = TakeIntoSays old.queue old.tailer new.tailer name room full took
TakesName old new name room full (Err e) =
    (NameFails old.queue old.tailer new.tailer name ⊎ IsNoText old new name) × (full ≡ room)
