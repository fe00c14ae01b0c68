-- How a reader of a shelf moves, and what it reads at a position.
use Rattle.std.specs.Arc.{arc_value}
use Rattle.std.specs.Prelude.{Bool, true, false, ◌≡◌, ◌≢◌, ◌<◌, ⊤, ℕ, List}
use Rattle.cq_endpoint.specs.Endpoints.{ChangesTailer, EndpointFacts}
use Rattle.cq_endpoint.specs.Reads.{ReadAtFails, ReadAtIntoSays, ReadAtSays, ReadFits}
use Rattle.cq_endpoint.specs.declared.answers.ReadAt.{ReadAt}
use Rattle.cq_endpoint.specs.declared.answers.ReadAt.TheVariants as read_at
use Rattle.cq_endpoint.specs.declared.answers.ReadAtInto.{ReadAtInto}
use Rattle.cq_endpoint.specs.declared.answers.ReadAtInto.TheVariants as read_at_into
use Rattle.cq_model.specs.declared.history.Answer.TheVariants.{Ends}
use Rattle.cq_model.specs.declared.history.Event.TheVariants.{End}
use Rattle.cq_row.specs.Faults.{IsStepFault}
use Rattle.cq_row.specs.Ways.{Enters, GoesOn}
use Rattle.cq_row.specs.declared.fault.ShelfFault.{ShelfFault}
use Rattle.cq_row.specs.declared.fault.ShelfFault.TheVariants.{OutOfMemory}
use Rattle.cq_row.specs.declared.place.Place.{Place}
use Rattle.cq_row.specs.declared.place.Position.{Position}
use Rattle.cq_row.specs.declared.place.Step.{Step}
use Rattle.cq_shelf.specs.Ways.{Comes, Does}
use Rattle.cq_shelf.specs.declared.answers.ShelfReadAt.{ShelfReadAt}
use Rattle.cq_shelf.specs.declared.answers.ShelfReadAt.TheVariants as shelf_at
use Rattle.cq_shelf.specs.declared.answers.ShelfReadAtInto.{ShelfReadAtInto}
use Rattle.cq_shelf.specs.declared.answers.ShelfReadAtInto.TheVariants as shelf_at_into
use Rattle.cq_tail.specs.Tailers.{Answered, MovesTo, TailerFacts}
use Rattle.cq_model.specs.declared.direction.Direction.{Direction}
use Rattle.cq_model.specs.declared.direction.Direction.TheVariants.{Forwards}

-- a place whose endpoint has this tailer
abbrev pub with_tailer : Place → TailerFacts → Place
with_tailer p t = record p { endpoint = record p.endpoint { tailer = t } }

-- the place of a reader that reads this way
abbrev pub turned : Place → Direction → Place
turned p way = with_tailer p (record p.endpoint.tailer { direction = way })

-- a reader is before the first message of the oldest queue that is kept: of an earlier one, or of its own
pub data ToStart (old new : Place) : Type 0 where
  at_earlier : (n : ℕ) → n < old.number → Enters (arc_value old.row) n new → ToStart old new
  at_own : new ≡ with_tailer old (record old.endpoint.tailer { cursor = 0; direction = Forwards }) → ToStart old new

-- what a step to the next queue came to
pub record Goes (old new : Place) : Type 0 where
  pub step : Step
  pub goes : GoesOn old step new

-- an endpoint is at the end of its queue, and reads forwards from there
pub record AtEnd (e f : EndpointFacts) : Type 0 where
  pub tailer : TailerFacts
  pub end : ℕ
  pub says : Answered e.queue e.tailer tailer End (Ends end) end
  pub is : f ≡ record e { tailer = record tailer { direction = Forwards } }

-- a reader is at the end of the last queue to which it came
pub record ToEnd (old new : Place) : Type 0 where
  pub last : Place
  pub passed : Comes Goes old last
  pub at_end : Does AtEnd last new

-- a move to an index in a queue
abbrev pub moves_to : ℕ → Bool → EndpointFacts → EndpointFacts → Type 0
moves_to i moved e f = MovesTo e.queue e.tailer f.tailer i moved × ChangesTailer e f

-- a move to a position: in the queue where the reader is; or to another one that is kept
pub data MovesOn (at : Position) (old new : Place) (moved : Bool) : Type 0 where
  moves_here : at.queue ≡ old.number → Does (moves_to at.index moved) old new → MovesOn at old new moved
  moves_there : (p : Place) → at.queue ≢ old.number → moved ≡ true → Enters (arc_value old.row) at.queue p → Does (moves_to at.index true) p new
      → MovesOn at old new moved
  moves_not : at.queue ≢ old.number → moved ≡ false → new ≡ old → MovesOn at old new moved

-- what is read at an index of a queue
abbrev pub reads_at : ℕ → ReadAt → EndpointFacts → EndpointFacts → Type 0
reads_at i said e f = ReadAtSays e.queue e.tailer f.tailer i said × ChangesTailer e f

-- what that is at a position of the shelf: in a closed queue no message comes any more
abbrev pub shelf_read_at : ReadAt → ShelfReadAt
shelf_read_at (read_at.Message m) = shelf_at.Message m
shelf_read_at read_at.NotYet = shelf_at.NotYet
shelf_read_at read_at.Finished = shelf_at.Never
shelf_read_at read_at.Never = shelf_at.Never
shelf_read_at read_at.Gone = shelf_at.Gone

-- a read at an index of a queue gave this
pub record ReadsIn (i : ℕ) (r : ShelfReadAt) (e f : EndpointFacts) : Type 0 where
  pub said : ReadAt
  pub reads : reads_at i said e f
  pub is : r ≡ shelf_read_at said

-- there is no message at this position
abbrev pub IsNone : ShelfReadAt → Type 0
IsNone (shelf_at.Message m) = ⊥
IsNone shelf_at.NotYet = ⊤
IsNone shelf_at.Never = ⊤
IsNone shelf_at.Gone = ⊤

-- a read at a position: in the queue where the reader is; or in another one that is kept; or there is no such queue
pub data ReadsAtOn (at : Position) (old new : Place) (r : ShelfReadAt) : Type 0 where
  in_own : at.queue ≡ old.number → Does (ReadsIn at.index r) old new → ReadsAtOn at old new r
  in_other : (p : Place) (f : EndpointFacts) → at.queue ≢ old.number → new ≡ old → Enters (arc_value old.row) at.queue p
      → ReadsIn at.index r p.endpoint f → ReadsAtOn at old new r
  nowhere : at.queue ≢ old.number → new ≡ old → IsNone r → ReadsAtOn at old new r

-- and one that failed: memory was refused to the copy, or the reader did not come to another queue
pub data ReadsAtFails (at : Position) (old new : Place) (fault : ShelfFault) : Type 0 where
  fails_here : at.queue ≡ old.number → fault ≡ OutOfMemory
      → Does (λ e f. ReadAtFails e.queue e.tailer f.tailer at.index × ChangesTailer e f) old new → ReadsAtFails at old new fault
  fails_elsewhere : at.queue ≢ old.number → IsStepFault fault → new ≡ old → ReadsAtFails at old new fault

-- it did not come to the last queue
abbrev pub EndsNot : Place → Place → ShelfFault → Type 0
EndsNot old new fault = Comes Goes old new × IsStepFault fault

-- the same into a room
abbrev pub reads_at_into : ℕ → List ℕ → List ℕ → ReadAtInto → EndpointFacts → EndpointFacts → Type 0
reads_at_into i room full said e f =
    ReadAtIntoSays e.queue e.tailer f.tailer i room full said × ReadFits full said × ChangesTailer e f

abbrev pub shelf_read_into : ReadAtInto → ShelfReadAtInto
shelf_read_into (read_at_into.Message len) = shelf_at_into.Message len
shelf_read_into (read_at_into.NoRoom len) = shelf_at_into.NoRoom len
shelf_read_into read_at_into.NotYet = shelf_at_into.NotYet
shelf_read_into read_at_into.Finished = shelf_at_into.Never
shelf_read_into read_at_into.Never = shelf_at_into.Never
shelf_read_into read_at_into.Gone = shelf_at_into.Gone

pub record ReadsIntoIn (i : ℕ) (room full : List ℕ) (r : ShelfReadAtInto) (e f : EndpointFacts) : Type 0 where
  pub said : ReadAtInto
  pub reads : reads_at_into i room full said e f
  pub is : r ≡ shelf_read_into said

abbrev pub IsNoneInto : ShelfReadAtInto → Type 0
IsNoneInto (shelf_at_into.Message len) = ⊥
IsNoneInto (shelf_at_into.NoRoom len) = ⊥
IsNoneInto shelf_at_into.NotYet = ⊤
IsNoneInto shelf_at_into.Never = ⊤
IsNoneInto shelf_at_into.Gone = ⊤

pub data ReadsAtIntoOn (at : Position) (old : Place) (room : List ℕ) (new : Place) (full : List ℕ) (r : ShelfReadAtInto) : Type 0
  where
    into_own : at.queue ≡ old.number → Does (ReadsIntoIn at.index room full r) old new → ReadsAtIntoOn at old room new full r
    into_other : (p : Place) (f : EndpointFacts) → at.queue ≢ old.number → new ≡ old → Enters (arc_value old.row) at.queue p
        → ReadsIntoIn at.index room full r p.endpoint f → ReadsAtIntoOn at old room new full r
    into_nowhere : at.queue ≢ old.number → new ≡ old → full ≡ room → IsNoneInto r → ReadsAtIntoOn at old room new full r
