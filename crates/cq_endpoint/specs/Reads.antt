-- What reads and takes of an endpoint return: what those of its tailer do, and that the queue is closed.
use Rattle.std.specs.Prelude.{Bool, true, false, ⊤, ◌≡◌, ◌≢◌, ◌⊎◌, ◌≤◌, ℕ, List, [], length}
use Rattle.cq_endpoint.specs.Looks.{Looks}
use Rattle.cq_endpoint.specs.declared.answers.Next.{Next}
use Rattle.cq_endpoint.specs.declared.answers.Next.TheVariants as next
use Rattle.cq_endpoint.specs.declared.answers.NextInto.{NextInto}
use Rattle.cq_endpoint.specs.declared.answers.NextInto.TheVariants as next_into
use Rattle.cq_endpoint.specs.declared.answers.NextPeeked.{NextPeeked}
use Rattle.cq_endpoint.specs.declared.answers.NextPeeked.TheVariants as next_peeked
use Rattle.cq_endpoint.specs.declared.answers.ReadAt.{ReadAt}
use Rattle.cq_endpoint.specs.declared.answers.ReadAt.TheVariants as read_at
use Rattle.cq_endpoint.specs.declared.answers.ReadAtInto.{ReadAtInto}
use Rattle.cq_endpoint.specs.declared.answers.ReadAtInto.TheVariants as read_at_into
use Rattle.cq_endpoint.specs.declared.answers.Taken.{Taken}
use Rattle.cq_endpoint.specs.declared.answers.Taken.TheVariants as taken
use Rattle.cq_endpoint.specs.declared.answers.TakenInto.{TakenInto}
use Rattle.cq_endpoint.specs.declared.answers.TakenInto.TheVariants as taken_into
use Rattle.cq_tail.specs.Names.{IsDeclared, NameFails, Takes}
use Rattle.cq_tail.specs.Peeks.{PeeksNext}
use Rattle.cq_tail.specs.Rooms.{ReadsAtInto, ReadsInto, TakesInto}
use Rattle.cq_tail.specs.Tailers.{MadeNoCall, ReadsAt, ReadsNext, TailerFacts}
use Rattle.cq_tail.specs.declared.answers.At.{At}
use Rattle.cq_tail.specs.declared.answers.At.TheVariants as at
use Rattle.cq_tail.specs.declared.answers.AtInto.{AtInto}
use Rattle.cq_tail.specs.declared.answers.AtInto.TheVariants as at_into
use Rattle.cq_tail.specs.declared.answers.Found.{Found}
use Rattle.cq_tail.specs.declared.answers.Found.TheVariants as found
use Rattle.cq_tail.specs.declared.answers.FoundInto.{FoundInto}
use Rattle.cq_tail.specs.declared.answers.FoundInto.TheVariants as found_into
use Rattle.cq_tail.specs.declared.answers.Peeked.{Peeked}
use Rattle.cq_tail.specs.declared.answers.Peeked.TheVariants as peeked
use Rattle.cq_tail.specs.declared.answers.Take.{Take}
use Rattle.cq_tail.specs.declared.answers.Take.TheVariants as take
use Rattle.cq_tail.specs.declared.answers.TakeInto.{TakeInto}
use Rattle.cq_tail.specs.declared.answers.TakeInto.TheVariants as take_into
use Rattle.cq_model.specs.declared.take_fault.TakeFault.{TakeFault}
use Rattle.cq_model.specs.declared.take_fault.TakeFault.TheVariants as fault
use Rattle.cq_words.specs.Values.{QueueFacts}

-- a tailer, and what a room holds, which is the caller's bytes
pub record Reader : Type 0 where
  pub tailer : TailerFacts
  pub room : List ℕ

-- these
abbrev pub reader : TailerFacts → List ℕ → Reader
reader tailer room = record { tailer = tailer; room = room }

-- what a call returns that reads: an answer of its tailer, or that nothing is there yet, or that nothing comes any more
pub data Outcome (A : Type 0) : Type 0 where
  answered : A → Outcome A
  not_yet : Outcome A
  finished : Outcome A

-- what an answer of a tailer is, where `none` says that nothing is there yet: that is final, and any other one stays so
abbrev pub IsTold : {A : Type 0} → A → A → Outcome A → Type 0
IsTold none a (answered b) = (b ≡ a) × (a ≢ none)
IsTold none a not_yet = ⊥
IsTold none a finished = a ≡ none

-- a tailer looked whether its queue is sealed, and stays where it is
pub record TailerLooks (queue : QueueFacts) (old new : TailerFacts) (known : Bool) : Type 0 where
  pub looks : Looks queue old.caller new.caller known
  pub stays : new ≡ record old { caller = new.caller }

-- a tailer looked, and knew that the queue is sealed; then it read
pub record ReadsLast (queue : QueueFacts) (t : Reader) (read : Reader → Type 0) : Type 0 where
  pub looked : TailerFacts
  pub looks : TailerLooks queue t.tailer looked true
  pub last : read (reader looked t.room)

-- what came after a read that found nothing yet, where `reads` is what a read says, and `none` that nothing is there yet: if
-- the queue is not sealed that is the answer; and else a second read says whether something had come before the seal
abbrev pub LooksAfter : {A : Type 0} → QueueFacts → (Reader → Reader → A → Type 0) → A → Reader → Reader → Outcome A → Type 0
LooksAfter queue reads none t new (answered a) = ReadsLast queue t (λ u. reads u new a)
LooksAfter queue reads none t new not_yet = TailerLooks queue t.tailer new.tailer false × (new.room ≡ t.room)
LooksAfter queue reads none t new finished = ReadsLast queue t (λ u. reads u new none)

-- a first read found nothing yet, and then this
pub record FindsNone (first : Reader → Type 0) (later : Reader → Type 0) : Type 0 where
  pub between : Reader
  pub none : first between
  pub after : later between

-- what a call says that reads, where `reads` is what a read of its tailer says, and `none` that nothing is there yet
abbrev pub Reads : {A : Type 0} → QueueFacts → (Reader → Reader → A → Type 0) → A → Reader → Reader → Outcome A → Type 0
Reads queue reads none old new (answered a) = reads old new a
    ⊎ FindsNone (λ t. reads old t none) (λ t. LooksAfter queue reads none t new (answered a))
Reads queue reads none old new not_yet =
    FindsNone (λ t. reads old t none) (λ t. LooksAfter queue reads none t new not_yet)
Reads queue reads none old new finished =
    FindsNone (λ t. reads old t none) (λ t. LooksAfter queue reads none t new finished)

-- a call was refused at its first read, as `fails` says, or at its second
abbrev pub Fails : {A : Type 0} → QueueFacts → (Reader → Reader → A → Type 0) → A → (Reader → Reader → Type 0) → Reader → Reader
    → Type 0
Fails queue reads none fails old new =
    fails old new ⊎ FindsNone (λ t. reads old t none) (λ t. ReadsLast queue t (λ u. fails u new))

-- what reads and takes return, of what those of a tailer do
abbrev pub next_outcome : Next → Outcome Found
next_outcome (next.Message i m) = answered (found.Message i m)
next_outcome next.NotYet = not_yet
next_outcome next.Finished = finished
next_outcome next.BeforeStart = answered found.BeforeStart

abbrev pub peeked_outcome : NextPeeked → Outcome Peeked
peeked_outcome (next_peeked.Message i len) = answered (peeked.Message i len)
peeked_outcome next_peeked.NotYet = not_yet
peeked_outcome next_peeked.Finished = finished
peeked_outcome next_peeked.BeforeStart = answered peeked.BeforeStart

abbrev pub read_at_outcome : ReadAt → Outcome At
read_at_outcome (read_at.Message m) = answered (at.Message m)
read_at_outcome read_at.NotYet = not_yet
read_at_outcome read_at.Finished = finished
read_at_outcome read_at.Never = answered at.Never
read_at_outcome read_at.Gone = answered at.Gone

abbrev pub taken_outcome : Taken → Outcome Take
taken_outcome (taken.Taken i m) = answered (take.Taken i m)
taken_outcome taken.NotYet = not_yet
taken_outcome taken.Finished = finished
taken_outcome (taken.Moved p) = answered (take.Moved p)

abbrev pub next_into_outcome : NextInto → Outcome FoundInto
next_into_outcome (next_into.Message i len) = answered (found_into.Message i len)
next_into_outcome (next_into.NoRoom len) = answered (found_into.NoRoom len)
next_into_outcome next_into.NotYet = not_yet
next_into_outcome next_into.Finished = finished
next_into_outcome next_into.BeforeStart = answered found_into.BeforeStart

abbrev pub read_at_into_outcome : ReadAtInto → Outcome AtInto
read_at_into_outcome (read_at_into.Message len) = answered (at_into.Message len)
read_at_into_outcome (read_at_into.NoRoom len) = answered (at_into.NoRoom len)
read_at_into_outcome read_at_into.NotYet = not_yet
read_at_into_outcome read_at_into.Finished = finished
read_at_into_outcome read_at_into.Never = answered at_into.Never
read_at_into_outcome read_at_into.Gone = answered at_into.Gone

abbrev pub taken_into_outcome : TakenInto → Outcome TakeInto
taken_into_outcome (taken_into.Taken i len) = answered (take_into.Taken i len)
taken_into_outcome (taken_into.NoRoom len) = answered (take_into.NoRoom len)
taken_into_outcome taken_into.NotYet = not_yet
taken_into_outcome taken_into.Finished = finished
taken_into_outcome (taken_into.Moved p) = answered (take_into.Moved p)

-- a message that was read into a room is no longer than the room
abbrev pub NextFits : List ℕ → NextInto → Type 0
NextFits room (next_into.Message i len) = len ≤ length room
NextFits room (next_into.NoRoom len) = ⊤
NextFits room next_into.NotYet = ⊤
NextFits room next_into.Finished = ⊤
NextFits room next_into.BeforeStart = ⊤

abbrev pub ReadFits : List ℕ → ReadAtInto → Type 0
ReadFits room (read_at_into.Message len) = len ≤ length room
ReadFits room (read_at_into.NoRoom len) = ⊤
ReadFits room read_at_into.NotYet = ⊤
ReadFits room read_at_into.Finished = ⊤
ReadFits room read_at_into.Never = ⊤
ReadFits room read_at_into.Gone = ⊤

abbrev pub TakeFits : List ℕ → TakenInto → Type 0
TakeFits room (taken_into.Taken i len) = len ≤ length room
TakeFits room (taken_into.NoRoom len) = ⊤
TakeFits room taken_into.NotYet = ⊤
TakeFits room taken_into.Finished = ⊤
TakeFits room (taken_into.Moved p) = ⊤

-- a read of a tailer, without a room or into one
abbrev pub OfNext : QueueFacts → Reader → Reader → Found → Type 0
OfNext queue t u f = ReadsNext queue t.tailer u.tailer f

abbrev pub OfPeek : QueueFacts → Reader → Reader → Peeked → Type 0
OfPeek queue t u p = PeeksNext queue t.tailer u.tailer p

abbrev pub OfAt : QueueFacts → ℕ → Reader → Reader → At → Type 0
OfAt queue i t u f = ReadsAt queue t.tailer u.tailer i f

abbrev pub OfTake : QueueFacts → List ℕ → Reader → Reader → Take → Type 0
OfTake queue name t u f = Takes queue t.tailer u.tailer name f

abbrev pub OfNextInto : QueueFacts → Reader → Reader → FoundInto → Type 0
OfNextInto queue t u f = ReadsInto queue t.tailer u.tailer t.room u.room f

abbrev pub OfAtInto : QueueFacts → ℕ → Reader → Reader → AtInto → Type 0
OfAtInto queue i t u f = ReadsAtInto queue t.tailer u.tailer i t.room u.room f

abbrev pub OfTakeInto : QueueFacts → List ℕ → Reader → Reader → TakeInto → Type 0
OfTakeInto queue name t u f = TakesInto queue t.tailer u.tailer name t.room u.room f

-- what each read says, and each take
abbrev pub NextSays : QueueFacts → TailerFacts → TailerFacts → Next → Type 0
NextSays queue old new n = Reads queue (OfNext queue) found.NotYet (reader old []) (reader new []) (next_outcome n)

-- what a look at the next message says
abbrev pub PeekSays : QueueFacts → TailerFacts → TailerFacts → NextPeeked → Type 0
PeekSays queue old new n = Reads queue (OfPeek queue) peeked.NotYet (reader old []) (reader new []) (peeked_outcome n)

abbrev pub ReadAtSays : QueueFacts → TailerFacts → TailerFacts → ℕ → ReadAt → Type 0
ReadAtSays queue old new i r = Reads queue (OfAt queue i) at.NotYet (reader old []) (reader new []) (read_at_outcome r)

abbrev pub TakeSays : QueueFacts → TailerFacts → TailerFacts → List ℕ → Taken → Type 0
TakeSays queue old new name t = Reads queue (OfTake queue name) take.NotYet (reader old []) (reader new []) (taken_outcome t)

abbrev pub NextIntoSays : QueueFacts → TailerFacts → TailerFacts → List ℕ → List ℕ → NextInto → Type 0
NextIntoSays queue old new room full n =
    Reads queue (OfNextInto queue) found_into.NotYet (reader old room) (reader new full) (next_into_outcome n)

abbrev pub ReadAtIntoSays : QueueFacts → TailerFacts → TailerFacts → ℕ → List ℕ → List ℕ → ReadAtInto → Type 0
ReadAtIntoSays queue old new i room full r =
    Reads queue (OfAtInto queue i) at_into.NotYet (reader old room) (reader new full) (read_at_into_outcome r)

abbrev pub TakeIntoSays : QueueFacts → TailerFacts → TailerFacts → List ℕ → List ℕ → List ℕ → TakenInto → Type 0
TakeIntoSays queue old new name room full t =
    Reads queue (OfTakeInto queue name) take_into.NotYet (reader old room) (reader new full) (taken_into_outcome t)

-- memory was refused to a read
abbrev pub OfMemory : QueueFacts → Reader → Reader → Type 0
OfMemory queue t u = MadeNoCall queue t.tailer u.tailer

-- memory was refused to `next`, or to `read_at`, at its first read or at its second
abbrev pub NextFails : QueueFacts → TailerFacts → TailerFacts → Type 0
NextFails queue old new = Fails queue (OfNext queue) found.NotYet (OfMemory queue) (reader old []) (reader new [])

abbrev pub ReadAtFails : QueueFacts → TailerFacts → TailerFacts → ℕ → Type 0
ReadAtFails queue old new i = Fails queue (OfAt queue i) at.NotYet (OfMemory queue) (reader old []) (reader new [])

-- why a take failed: the queue declares no such name, and nothing changed; or memory was refused at its first read or its second
abbrev pub TakeRefused : QueueFacts → TailerFacts → TailerFacts → List ℕ → TakeFault → Type 0
TakeRefused queue old new name fault.NoSuchName = NameFails queue old new name
TakeRefused queue old new name fault.OutOfMemory = IsDeclared queue name
    × Fails queue (OfTake queue name) take.NotYet (OfMemory queue) (reader old []) (reader new [])

-- why the second take of a name that is declared failed: memory was refused
abbrev pub TakeRefusedAgain : QueueFacts → TailerFacts → TailerFacts → TakeFault → Type 0
TakeRefusedAgain queue old new fault.NoSuchName = ⊥
TakeRefusedAgain queue old new fault.OutOfMemory =
    ReadsLast queue (reader old []) (λ t. OfMemory queue t (reader new []))
