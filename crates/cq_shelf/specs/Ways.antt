-- How an endpoint of a shelf comes from queue to queue in one call, and what it does in the last one.
use Rattle.std.specs.Prelude.{true, ◌≡◌, ◌⊎◌, ◌≤◌, ◌+◌, ℕ, List, Option, None, Some, Result, Ok, Err}
use Rattle.cq_endpoint.specs.Endpoints.{EndpointFacts}
use Rattle.cq_row.specs.Faults.{IsStepFault}
use Rattle.cq_row.specs.Ways.{GoesBack, GoesOn}
use Rattle.cq_row.specs.declared.fault.ShelfFault.{ShelfFault}
use Rattle.cq_row.specs.declared.fault.ShelfFault.TheVariants.{Busy}
use Rattle.cq_row.specs.declared.place.Place.{Place}
use Rattle.cq_row.specs.declared.place.Step.TheVariants as step

-- a place, and what a room holds, which is the caller's bytes
pub record Here : Type 0 where
  pub place : Place
  pub room : List ℕ

-- these
abbrev pub here : Place → List ℕ → Here
here place room = record { place = place; room = room }

-- what one call does to an endpoint and to a room
abbrev pub Call : Type 1
Call = EndpointFacts → List ℕ → EndpointFacts → List ℕ → Type 0

-- the endpoint of a place did this in its queue
abbrev pub Does : (EndpointFacts → EndpointFacts → Type 0) → Place → Place → Type 0
Does call old new = (new ≡ record old { endpoint = new.endpoint }) × call old.endpoint new.endpoint

-- it made one call
abbrev pub Makes : Call → Here → Here → Type 0
Makes call old new = Does (λ e f. call e old.room f new.room) old.place new.place

-- somebody came from one state to another by this many steps
pub data Passes {S : Type 0} (moves : S → S → Type 0) (old : S) : ℕ → S → Type 0 where
  stays : Passes moves old 0 old
  on : (n : ℕ) (there new : S) → Passes moves old n there → moves there new → Passes moves old (n + 1) new

-- by some number of them
abbrev pub Comes : {S : Type 0} → (S → S → Type 0) → S → S → Type 0
Comes moves old new = (n : ℕ) × Passes moves old n new

-- these are as many queues as one call goes over, or more
abbrev pub IsTired : ℕ → Type 0
IsTired n = 65536 ≤ n

-- by this call it saw that its queue is closed and that nothing is left there, and it went to the start of the next queue
pub record Onward (finishes : Call) (old new : Here) : Type 0 where
  pub left : Place
  pub finished : Makes finishes old (here left new.room)
  pub goes : GoesOn left step.Next new.place

-- by this call it saw that its queue is closed and that nothing is left there; then this many queues had been dropped, and it went
-- to the start of the one after them
pub record Misses (finishes : Call) (n : ℕ) (old new : Here) : Type 0 where
  pub left : Place
  pub finished : Makes finishes old (here left new.room)
  pub goes : GoesOn left (step.Skipped n) new.place

-- what a call of a shelf returned, as an answer of the last queue to which it came: that answer, or what follows where that queue
-- has no later message
pub data Reply (A : Type 0) : Type 0 where
  said : A → Reply A
  waits : Reply A
  ends : Reply A
  missed : ℕ → Reply A
  failed : ShelfFault → Reply A

-- how an endpoint is asked: what it does where it answers a, where it is refused, and which answers say that it is at the start of
-- its queue
pub record Asking (A : Type 0) : Type 1 where
  pub call : A → Call
  pub fails : ShelfFault → Call
  pub not_yet : A
  pub finished : A
  pub is_start : A → Type 0

-- an endpoint that is asked saw that it was at the start of its queue, and went to the end of the one before
pub record Backward {A : Type 0} (asking : Asking A) (old new : Here) : Type 0 where
  pub left : Place
  pub answer : A
  pub is_start : asking.is_start answer
  pub started : Makes (asking.call answer) old (here left new.room)
  pub goes : GoesBack left true new.place

-- it goes to the next queue once it has finished its own, and to the one before once it is at the start of its own
abbrev pub Moves : {A : Type 0} → Asking A → Here → Here → Type 0
Moves asking old new = Onward (asking.call asking.finished) old new ⊎ Backward asking old new

-- why it failed in the last queue to which it came: it was refused, or did not get to the next queue or to the one before, for one
-- of the reasons of a step; or it had gone over as many queues as one call does
pub data FailsAt {A : Type 0} (asking : Asking A) (over : ℕ) (old new : Here) (fault : ShelfFault) : Type 0 where
  refused : Makes (asking.fails fault) old new → FailsAt asking over old new fault
  next : Makes (asking.call asking.finished) old new → IsStepFault fault → FailsAt asking over old new fault
  before : (a : A) → asking.is_start a → Makes (asking.call a) old new → IsStepFault fault → FailsAt asking over old new fault
  turns : IsTired over → new ≡ old → fault ≡ Busy → FailsAt asking over old new fault

-- what it did there, after it went over this number of queues
abbrev pub Replies : {A : Type 0} → Asking A → ℕ → Here → Here → Reply A → Type 0
Replies asking over old new (said a) = Makes (asking.call a) old new
Replies asking over old new waits = Makes (asking.call asking.not_yet) old new ⊎ Makes (asking.call asking.finished) old new
Replies asking over old new ends = Makes (asking.call asking.finished) old new
Replies asking over old new (missed n) = Misses (asking.call asking.finished) n old new
Replies asking over old new (failed e) = FailsAt asking over old new e

-- what a call says that reads or takes: it finished each queue from the old place on, or backwards came to its start; and in the
-- last one it did this
pub record Asks {A : Type 0} (asking : Asking A) (old new : Here) (reply : Reply A) : Type 0 where
  pub over : ℕ
  pub last : Here
  pub passed : Passes (Moves asking) old over last
  pub replies : Replies asking over last new reply

-- what an answer of a queue comes to where the call ends with it: that answer, or what follows where the queue has no later message
abbrev pub Settles : {A : Type 0} → Asking A → A → Place → Place → Reply A → Type 0
Settles asking found old new (said a) = (found ≡ a) × (new ≡ old)
Settles asking found old new waits = (found ≡ asking.not_yet ⊎ found ≡ asking.finished) × (new ≡ old)
Settles asking found old new ends = (found ≡ asking.finished) × (new ≡ old)
Settles asking found old new (missed n) = (found ≡ asking.finished) × GoesOn old (step.Skipped n) new
Settles asking found old new (failed e) = (found ≡ asking.finished ⊎ asking.is_start found) × (new ≡ old) × IsStepFault e

-- where the endpoint went after it: to the next queue once its own is finished, or to the one before from the start of its own
abbrev pub Steps : {A : Type 0} → Asking A → A → Place → Place → Type 0
Steps asking found old new =
    ((found ≡ asking.finished) × GoesOn old step.Next new) ⊎ (asking.is_start found × GoesBack old true new)

-- what follows an answer of a queue: the call ends with an answer of the shelf, which is in the queue with the number of the place;
-- or the endpoint went to another queue
abbrev pub Turns : {A B : Type 0} → Asking A → (Result B ShelfFault → Reply A) → (ℕ → Result B ShelfFault → Type 0) → A → Place → Place
    → Result (Option B) ShelfFault → Type 0
Turns asking reply IsIn found old new (Ok (Some b)) = Settles asking found old new (reply (Ok b)) × IsIn new.number (Ok b)
Turns asking reply IsIn found old new (Ok None) = Steps asking found old new
Turns asking reply IsIn found old new (Err e) = Settles asking found old new (failed e)
