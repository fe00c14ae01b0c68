-- What appends of a shelf return: a writer leaves each queue that has no place for its message, once that is closed.
use Rattle.std.specs.Arc.{arc_value}
use Rattle.std.specs.Prelude.{◌≡◌, ◌≢◌, ◌⊎◌, ⊤, ℕ, List, [], length, Result, Ok, Err}
use Rattle.cq_endpoint.specs.Closes.{Closes}
use Rattle.cq_endpoint.specs.Endpoints.{ChangesTailer, ChangesWork, EndpointFacts, child, split_once}
use Rattle.cq_endpoint.specs.Works.{Advances, Appends, BeginsMessage, CompletesMessage, GivesUp, PutsBytes}
use Rattle.cq_endpoint.specs.declared.fault.AppendFault.{AppendFault}
use Rattle.cq_endpoint.specs.declared.fault.AppendFault.TheVariants as unappended
use Rattle.cq_endpoint.specs.declared.fault.CloseFault.{CloseFault}
use Rattle.cq_endpoint.specs.declared.fault.CloseFault.TheVariants as unclosed
use Rattle.cq_endpoint.specs.declared.fault.CompleteFault.{CompleteFault}
use Rattle.cq_endpoint.specs.declared.fault.NotWriting.{NotWriting}
use Rattle.cq_endpoint.specs.declared.fault.PutFault.{PutFault}
use Rattle.cq_layout.specs.Room.{Fits, IsMessageLength}
use Rattle.cq_layout.specs.declared.refusal.Refusal.TheVariants as refusal
use Rattle.cq_model.specs.declared.history.Answer.TheVariants.{Ends}
use Rattle.cq_model.specs.declared.history.Event.TheVariants.{End}
use Rattle.cq_row.specs.Faults.{IsStepFault}
use Rattle.cq_row.specs.Ways.{GoesOn}
use Rattle.cq_row.specs.declared.fault.ShelfFault.{ShelfFault}
use Rattle.cq_row.specs.declared.fault.ShelfFault.TheVariants as fault
use Rattle.cq_row.specs.declared.place.Place.{Place}
use Rattle.cq_row.specs.declared.place.Position.{Position}
use Rattle.cq_row.specs.declared.place.Step.TheVariants as step
use Rattle.cq_shelf.specs.Seeks.{Goes}
use Rattle.cq_shelf.specs.Ways.{Comes, Does, IsTired, Passes}
use Rattle.cq_tail.specs.Tailers.{Answered}

-- what one call of an endpoint that appends does where it returns this
abbrev pub Append : Type 0 → Type 1
Append A = Result A AppendFault → EndpointFacts → EndpointFacts → Type 0

-- an append of a message, the begin of one, and the begin of a cycle
abbrev pub appends : ℕ → List ℕ → Append ℕ
appends moment m said e f = Appends e.queue e.work moment m f.work said × ChangesWork e f

abbrev pub begins : ℕ → ℕ → Append Unit
begins moment room said e f = BeginsMessage e.queue e.work moment room f.work said × ChangesWork e f

abbrev pub advances : ℕ → Append ℕ
advances moment said e f = Advances e.queue e.work moment f.work said × ChangesWork e f

-- a close of the queue
abbrev pub closes : Result Unit CloseFault → EndpointFacts → EndpointFacts → Type 0
closes said e f = Closes e.queue e.work (child e.parent) f.work said
    × (said ≡ Err unclosed.Writing → f ≡ e)
    × (said ≢ Err unclosed.Writing → f ≡ record e { work = f.work; parent = split_once e.parent })

-- by which the queue is known to be closed
abbrev pub IsClosed : Result Unit CloseFault → Type 0
IsClosed (Ok u) = ⊤
IsClosed (Err unclosed.Closed) = ⊤
IsClosed (Err unclosed.Writing) = ⊥
IsClosed (Err (unclosed.Refused r)) = ⊥

-- the queue was closed, or found closed
pub record Shuts (old new : Place) : Type 0 where
  pub said : Result Unit CloseFault
  pub closes_it : Does (closes said) old new
  pub is_closed : IsClosed said

-- why it could not be closed
abbrev pub IsShutFault : Result Unit CloseFault → ShelfFault → Type 0
IsShutFault (Ok u) e = ⊥
IsShutFault (Err unclosed.Closed) e = ⊥
IsShutFault (Err unclosed.Writing) e = e ≡ fault.Writing
IsShutFault (Err (unclosed.Refused r)) e = e ≡ fault.Busy

-- it could not be closed, for this reason
pub record ShutsNot (old new : Place) (e : ShelfFault) : Type 0 where
  pub said : Result Unit CloseFault
  pub tries : Does (closes said) old new
  pub is_fault : IsShutFault said e

-- the endpoint looked for the end of its queue
pub record LooksForEnd (e f : EndpointFacts) : Type 0 where
  pub end : ℕ
  pub says : Answered e.queue e.tailer f.tailer End (Ends end) end
  pub rest : ChangesTailer e f

-- it went to the next queue, or to a later one where queues were dropped
pub record Onto (left new : Place) : Type 0 where
  pub over : ℕ
  pub goes : GoesOn left step.Next new ⊎ GoesOn left (step.Skipped over) new

-- the end of the queue was looked for, and then the writer went on
pub record LeavesEnd (old new : Place) : Type 0 where
  pub left : Place
  pub looked : Does LooksForEnd old left
  pub onto : Onto left new

-- after this refusal the queue was closed, or known to be, and its end was looked for
abbrev pub IsLeft : AppendFault → Place → Place → Type 0
IsLeft unappended.Writing old left = ⊥
IsLeft unappended.Closed old left = Does LooksForEnd old left
IsLeft (unappended.Refused r) old left = (shut : Place) × Shuts old shut × Does LooksForEnd shut left

-- an empty queue of this shelf has a place for a message of this many bytes
abbrev pub HasPlaceFor : ℕ → Place → Type 0
HasPlaceFor len p = IsMessageLength len × Fits (arc_value p.row).config.layout [] len

-- or it has none
abbrev pub HasNoPlaceFor : ℕ → Place → Type 0
HasNoPlaceFor len p = ¬ HasPlaceFor len p

-- after this refusal of a message of this many bytes the queue is to be left: it is full or closed, and the next one has a place
abbrev pub IsToLeave : ℕ → Place → AppendFault → Type 0
IsToLeave len p unappended.Closed = HasPlaceFor len p
IsToLeave len p (unappended.Refused refusal.NoCycleLeft) = HasPlaceFor len p
IsToLeave len p (unappended.Refused refusal.CycleFull) = HasPlaceFor len p
IsToLeave len p _ = ⊥

-- it was left, and then the writer went on
pub record Leaves (len : ℕ) (refused : AppendFault) (old new : Place) : Type 0 where
  pub is_to : IsToLeave len old refused
  pub left : Place
  pub leaves : IsLeft refused old left
  pub onto : Onto left new

-- which fault it is where nothing more was done after this refusal of a message of this many bytes
abbrev pub IsFault : ℕ → Place → AppendFault → ShelfFault → Type 0
IsFault len p unappended.Writing e = e ≡ fault.Writing
IsFault len p unappended.Closed e = (e ≡ fault.BadRoom) × HasNoPlaceFor len p
IsFault len p (unappended.Refused refusal.BadRoom) e = e ≡ fault.BadRoom
IsFault len p (unappended.Refused refusal.BadMoment) e = e ≡ fault.BadMoment
IsFault len p (unappended.Refused refusal.Busy) e = e ≡ fault.Busy
IsFault len p (unappended.Refused refusal.NoCycleLeft) e = (e ≡ fault.BadRoom) × HasNoPlaceFor len p
IsFault len p (unappended.Refused refusal.CycleFull) e = (e ≡ fault.BadRoom) × HasNoPlaceFor len p

-- why the writer did not come to the next queue: that could not begin or be entered, or the shelf is closed
abbrev pub IsOnFault : ShelfFault → Type 0
IsOnFault fault.Busy = ⊤
IsOnFault fault.Full = ⊤
IsOnFault fault.Closed = ⊤
IsOnFault fault.BadMoment = ⊤
IsOnFault fault.OutOfMemory = ⊤
IsOnFault _ = ⊥

-- why the writer stayed after this refusal of a message of this many bytes
pub data Stays (len : ℕ) (refused : AppendFault) (old new : Place) (e : ShelfFault) : Type 0 where
  at_once : new ≡ old → IsFault len old refused e → Stays len refused old new e
  not_shut : IsToLeave len old refused → ShutsNot old new e → Stays len refused old new e
  not_on : IsToLeave len old refused → IsLeft refused old new → IsOnFault e → Stays len refused old new e

-- a writer whose message of this many bytes was refused in a queue left it and went on
pub record WriterMoves {A : Type 0} (len : ℕ) (append : Append A) (old new : Place) : Type 0 where
  pub refused : AppendFault
  pub after : Place
  pub was_refused : Does (append (Err refused)) old after
  pub leaves : Leaves len refused after new

-- it was refused in a queue, and stayed there
pub record WriterStays {A : Type 0} (len : ℕ) (append : Append A) (old new : Place) (e : ShelfFault) : Type 0 where
  pub refused : AppendFault
  pub after : Place
  pub was_refused : Does (append (Err refused)) old after
  pub stays_there : Stays len refused after new e

-- what a call says that appends: it left queue by queue, and in the last one it did this
pub record Writes {A : Type 0} (len : ℕ) (append : Append A) (old new : Place) (a : A) : Type 0 where
  pub last : Place
  pub passed : Comes (WriterMoves len append) old last
  pub appended : Does (append (Ok a)) last new

-- and what it says where it failed: nothing was appended, in no queue
pub record WritesNot {A : Type 0} (len : ℕ) (append : Append A) (old new : Place) (e : ShelfFault) : Type 0 where
  pub over : ℕ
  pub last : Place
  pub passed : Passes (WriterMoves len append) old over last
  pub fails : WriterStays len append last new e ⊎ (IsTired over × (new ≡ last) × (e ≡ fault.Busy))

-- what `append` says
abbrev pub AppendsOn : ℕ → List ℕ → Place → Place → Result Position ShelfFault → Type 0
AppendsOn moment m old new (Ok at) = (at.queue ≡ new.number) × Writes (length m) (appends moment m) old new at.index
AppendsOn moment m old new (Err e) = WritesNot (length m) (appends moment m) old new e

-- what `begin` says
abbrev pub BeginsOn : ℕ → ℕ → Place → Place → Result Unit ShelfFault → Type 0
BeginsOn moment room old new (Ok u) = Writes room (begins moment room) old new u
BeginsOn moment room old new (Err e) = WritesNot room (begins moment room) old new e

-- what `put` says, `complete` and `roll_back`: what the endpoint does there
abbrev pub PutsOn : List ℕ → Place → Place → Result Unit PutFault → Type 0
PutsOn bytes old new said = Does (λ e f. PutsBytes e.queue e.work bytes f.work said × ChangesWork e f) old new

abbrev pub Completes : Result ℕ CompleteFault → EndpointFacts → EndpointFacts → Type 0
Completes said e f = CompletesMessage e.queue e.work f.work said × ChangesWork e f

abbrev pub CompletesOn : Place → Place → Result Position CompleteFault → Type 0
CompletesOn old new (Ok at) = (at.queue ≡ new.number) × Does (Completes (Ok at.index)) old new
CompletesOn old new (Err e) = Does (Completes (Err e)) old new

abbrev pub GivesUpOn : Place → Place → Result Unit NotWriting → Type 0
GivesUpOn old new said = Does (λ e f. GivesUp e.queue e.work f.work said × ChangesWork e f) old new

-- a writer closed its queue, or found it closed, and went on, or stayed
pub record Follows (old new : Place) : Type 0 where
  pub shut : Place
  pub shuts : Shuts old shut
  pub goes : Goes shut new

-- it came so far, and went over as many queues as one call does; or could not close its queue, or could not go on
pub record FollowsNot (old new : Place) (e : ShelfFault) : Type 0 where
  pub over : ℕ
  pub last : Place
  pub passed : Passes Follows old over last
  pub stays_there : (IsTired over × (new ≡ last) × (e ≡ fault.Busy)) ⊎ (ShutsNot last new e ⊎ (Shuts last new × IsStepFault e))

-- it came to the last queue, and closed it, or found it closed
pub record ClosesLast (old new : Place) : Type 0 where
  pub last : Place
  pub passed : Comes Follows old last
  pub shuts : Shuts last new

-- it did not close the shelf: it did not come to the last queue or did not close it; or the shelf was closed before
pub data ClosesNot (old new : Place) (e : ShelfFault) : Type 0 where
  not_last : FollowsNot old new e → ClosesNot old new e
  was_closed : ClosesLast old new → e ≡ fault.Closed → ClosesNot old new e

-- what `advance` says: first it follows the others to the last queue
abbrev pub AdvancesOn : ℕ → Place → Place → Result ℕ ShelfFault → Type 0
AdvancesOn moment old new (Ok cycle) = (last : Place) × Comes Follows old last × Writes 1 (advances moment) last new cycle
AdvancesOn moment old new (Err e) =
    FollowsNot old new e ⊎ ((last : Place) × Comes Follows old last × WritesNot 1 (advances moment) last new e)
