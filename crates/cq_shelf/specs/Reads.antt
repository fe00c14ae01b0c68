-- What reads and takes of a shelf return: they go from queue to queue, as far as they finish them, and make one call more.
use Rattle.std.specs.Prelude.{◌≡◌, ⊤, ℕ, List, [], Result, Ok, Err, string_bytes}
use Rattle.cq_endpoint.specs.Endpoints.{ChangesTailer, EndpointFacts}
use Rattle.cq_endpoint.specs.Reads.{NextFails, NextFits, NextIntoSays, NextSays, TakeFits, TakeIntoSays, TakeRefused, TakeSays}
use Rattle.cq_endpoint.specs.declared.answers.Next.{Next}
use Rattle.cq_endpoint.specs.declared.answers.Next.TheVariants as next
use Rattle.cq_endpoint.specs.declared.answers.NextInto.{NextInto}
use Rattle.cq_endpoint.specs.declared.answers.NextInto.TheVariants as next_into
use Rattle.cq_endpoint.specs.declared.answers.Taken.{Taken}
use Rattle.cq_endpoint.specs.declared.answers.Taken.TheVariants as taken
use Rattle.cq_endpoint.specs.declared.answers.TakenInto.{TakenInto}
use Rattle.cq_endpoint.specs.declared.answers.TakenInto.TheVariants as taken_into
use Rattle.cq_row.specs.Faults.{fault_of}
use Rattle.cq_row.specs.declared.fault.ShelfFault.{ShelfFault}
use Rattle.cq_row.specs.declared.fault.ShelfFault.TheVariants.{NoSuchName, OutOfMemory}
use Rattle.cq_row.specs.declared.place.Place.{Place}
use Rattle.cq_row.specs.declared.place.Position.{Position}
use Rattle.cq_shelf.specs.Ways.{Asking, Asks, Does, Reply, ends, failed, here, missed, said, waits}
use Rattle.cq_shelf.specs.declared.answers.ShelfNext.{ShelfNext}
use Rattle.cq_shelf.specs.declared.answers.ShelfNext.TheVariants as shelf_next
use Rattle.cq_shelf.specs.declared.answers.ShelfNextInto.{ShelfNextInto}
use Rattle.cq_shelf.specs.declared.answers.ShelfNextInto.TheVariants as shelf_next_into
use Rattle.cq_shelf.specs.declared.answers.ShelfTaken.{ShelfTaken}
use Rattle.cq_shelf.specs.declared.answers.ShelfTaken.TheVariants as shelf_taken
use Rattle.cq_shelf.specs.declared.answers.ShelfTakenInto.{ShelfTakenInto}
use Rattle.cq_shelf.specs.declared.answers.ShelfTakenInto.TheVariants as shelf_taken_into
use Rattle.cq_shelf.specs.declared.taker.ShelfTaker.{ShelfTaker}
use Rattle.cq_tail.specs.Names.{NameFails, TellsPosition}
use Rattle.cq_model.specs.declared.take_fault.TakeFault.{TakeFault}

-- a read of the next message by an endpoint
abbrev pub reads_next : Asking Next
reads_next = record {
  call = λ n e room f full. NextSays e.queue e.tailer f.tailer n × ChangesTailer e f;
  fails = λ fault e room f full. (fault ≡ OutOfMemory) × NextFails e.queue e.tailer f.tailer × ChangesTailer e f;
  not_yet = next.NotYet;
  finished = next.Finished;
  is_start = λ n. n ≡ next.BeforeStart;
}

-- what `next` returned, as an answer of the last queue
abbrev pub next_reply : Result ShelfNext ShelfFault → Reply Next
next_reply (Ok (shelf_next.Message at m)) = said (next.Message at.index m)
next_reply (Ok shelf_next.NotYet) = waits
next_reply (Ok shelf_next.Finished) = ends
next_reply (Ok shelf_next.BeforeStart) = said next.BeforeStart
next_reply (Ok (shelf_next.Missed n)) = missed n
next_reply (Err e) = failed e

-- the position of what was read is in the queue with this number
abbrev pub NextIn : ℕ → Result ShelfNext ShelfFault → Type 0
NextIn number (Ok (shelf_next.Message at m)) = at.queue ≡ number
NextIn number (Ok shelf_next.NotYet) = ⊤
NextIn number (Ok shelf_next.Finished) = ⊤
NextIn number (Ok shelf_next.BeforeStart) = ⊤
NextIn number (Ok (shelf_next.Missed n)) = ⊤
NextIn number (Err e) = ⊤

-- what `next` says
abbrev pub NextOn : Place → Place → Result ShelfNext ShelfFault → Type 0
NextOn old new result = Asks reads_next (here old []) (here new []) (next_reply result) × NextIn new.number result

-- a read of the next message into a room
abbrev pub reads_into : Asking NextInto
reads_into = record {
  call = λ n e room f full. NextIntoSays e.queue e.tailer f.tailer room full n × NextFits full n × ChangesTailer e f;
  fails = λ fault e room f full. ⊥;
  not_yet = next_into.NotYet;
  finished = next_into.Finished;
  is_start = λ n. n ≡ next_into.BeforeStart;
}

abbrev pub next_into_reply : Result ShelfNextInto ShelfFault → Reply NextInto
next_into_reply (Ok (shelf_next_into.Message at len)) = said (next_into.Message at.index len)
next_into_reply (Ok (shelf_next_into.NoRoom len)) = said (next_into.NoRoom len)
next_into_reply (Ok shelf_next_into.NotYet) = waits
next_into_reply (Ok shelf_next_into.Finished) = ends
next_into_reply (Ok shelf_next_into.BeforeStart) = said next_into.BeforeStart
next_into_reply (Ok (shelf_next_into.Missed n)) = missed n
next_into_reply (Err e) = failed e

abbrev pub NextIntoIn : ℕ → Result ShelfNextInto ShelfFault → Type 0
NextIntoIn number (Ok (shelf_next_into.Message at len)) = at.queue ≡ number
NextIntoIn number (Ok (shelf_next_into.NoRoom len)) = ⊤
NextIntoIn number (Ok shelf_next_into.NotYet) = ⊤
NextIntoIn number (Ok shelf_next_into.Finished) = ⊤
NextIntoIn number (Ok shelf_next_into.BeforeStart) = ⊤
NextIntoIn number (Ok (shelf_next_into.Missed n)) = ⊤
NextIntoIn number (Err e) = ⊤

-- what `next_into` says
abbrev pub NextIntoOn : Place → List ℕ → Place → List ℕ → Result ShelfNextInto ShelfFault → Type 0
NextIntoOn old room new full result =
    Asks reads_into (here old room) (here new full) (next_into_reply result) × NextIntoIn new.number result

-- why a take by a name was refused
pub record RefusesTake (name : List ℕ) (fault : ShelfFault) (e f : EndpointFacts) : Type 0 where
  pub reason : TakeFault
  pub is : fault ≡ fault_of reason
  pub refused : TakeRefused e.queue e.tailer f.tailer name reason
  pub rest : ChangesTailer e f

-- a take by a name
abbrev pub takes_by : List ℕ → Asking Taken
takes_by name = record {
  call = λ t e room f full. TakeSays e.queue e.tailer f.tailer name t × ChangesTailer e f;
  fails = λ fault e room f full. RefusesTake name fault e f;
  not_yet = taken.NotYet;
  finished = taken.Finished;
  is_start = λ _. ⊥;
}

abbrev pub taken_reply : Result ShelfTaken ShelfFault → Reply Taken
taken_reply (Ok (shelf_taken.Taken at m)) = said (taken.Taken at.index m)
taken_reply (Ok shelf_taken.NotYet) = waits
taken_reply (Ok shelf_taken.Finished) = ends
taken_reply (Ok (shelf_taken.Moved at)) = said (taken.Moved at.index)
taken_reply (Ok (shelf_taken.Missed n)) = missed n
taken_reply (Err e) = failed e

abbrev pub TakenIn : ℕ → Result ShelfTaken ShelfFault → Type 0
TakenIn number (Ok (shelf_taken.Taken at m)) = at.queue ≡ number
TakenIn number (Ok shelf_taken.NotYet) = ⊤
TakenIn number (Ok shelf_taken.Finished) = ⊤
TakenIn number (Ok (shelf_taken.Moved at)) = at.queue ≡ number
TakenIn number (Ok (shelf_taken.Missed n)) = ⊤
TakenIn number (Err e) = ⊤

-- nothing of a taker changed but its place
abbrev pub IsSameTaker : ShelfTaker → ShelfTaker → Type 0
IsSameTaker old new = new ≡ record old { place = new.place }

-- what `take` says
abbrev pub TakenOn : ShelfTaker → ShelfTaker → Result ShelfTaken ShelfFault → Type 0
TakenOn old new result = IsSameTaker old new
    × Asks (takes_by (string_bytes old.name)) (here old.place []) (here new.place []) (taken_reply result)
    × TakenIn new.place.number result

-- a take by a name into a room
abbrev pub takes_into : List ℕ → Asking TakenInto
takes_into name = record {
  call = λ t e room f full. TakeIntoSays e.queue e.tailer f.tailer name room full t × TakeFits full t × ChangesTailer e f;
  fails = λ fault e room f full.
      (fault ≡ NoSuchName) × NameFails e.queue e.tailer f.tailer name × (full ≡ room) × ChangesTailer e f;
  not_yet = taken_into.NotYet;
  finished = taken_into.Finished;
  is_start = λ _. ⊥;
}

abbrev pub taken_into_reply : Result ShelfTakenInto ShelfFault → Reply TakenInto
taken_into_reply (Ok (shelf_taken_into.Taken at len)) = said (taken_into.Taken at.index len)
taken_into_reply (Ok (shelf_taken_into.NoRoom len)) = said (taken_into.NoRoom len)
taken_into_reply (Ok shelf_taken_into.NotYet) = waits
taken_into_reply (Ok shelf_taken_into.Finished) = ends
taken_into_reply (Ok (shelf_taken_into.Moved at)) = said (taken_into.Moved at.index)
taken_into_reply (Ok (shelf_taken_into.Missed n)) = missed n
taken_into_reply (Err e) = failed e

abbrev pub TakenIntoIn : ℕ → Result ShelfTakenInto ShelfFault → Type 0
TakenIntoIn number (Ok (shelf_taken_into.Taken at len)) = at.queue ≡ number
TakenIntoIn number (Ok (shelf_taken_into.NoRoom len)) = ⊤
TakenIntoIn number (Ok shelf_taken_into.NotYet) = ⊤
TakenIntoIn number (Ok shelf_taken_into.Finished) = ⊤
TakenIntoIn number (Ok (shelf_taken_into.Moved at)) = at.queue ≡ number
TakenIntoIn number (Ok (shelf_taken_into.Missed n)) = ⊤
TakenIntoIn number (Err e) = ⊤

-- what `take_into` says
abbrev pub TakenIntoOn : ShelfTaker → List ℕ → ShelfTaker → List ℕ → Result ShelfTakenInto ShelfFault → Type 0
TakenIntoOn old room new full result = IsSameTaker old new
    × Asks (takes_into (string_bytes old.name)) (here old.place room) (here new.place full) (taken_into_reply result)
    × TakenIntoIn new.place.number result

-- what `position` says of a taker: where the name is in the queue at which the taker is
abbrev pub PositionOn : ShelfTaker → ShelfTaker → Result Position ShelfFault → Type 0
PositionOn old new (Ok at) = IsSameTaker old new × (at.queue ≡ new.place.number)
    × Does (λ e f. TellsPosition e.queue e.tailer f.tailer (string_bytes old.name) at.index × ChangesTailer e f) old.place new.place
PositionOn old new (Err e) = IsSameTaker old new × (e ≡ NoSuchName)
    × Does (λ e f. NameFails e.queue e.tailer f.tailer (string_bytes old.name) × ChangesTailer e f) old.place new.place
