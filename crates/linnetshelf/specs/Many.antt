-- What the calls say that append or read many messages, and what they answer C.
use Rattle.std.specs.Prelude.{◌≡◌, ⊤, ℕ, ◌<◌, ◌≤◌, List, [], ◌∷◌, ◌++◌, Option, None, Some, Ok, Err, drop, length, slice_index, take}
use Rattle.cq_endpoint.specs.Reads.{NextIntoSays}
use Rattle.cq_endpoint.specs.Works.{Appends}
use Rattle.cq_endpoint.specs.declared.answers.NextInto.{NextInto}
use Rattle.cq_endpoint.specs.declared.answers.NextInto.TheVariants as found
use Rattle.cq_endpoint.specs.declared.work.Work.{Work}
use Rattle.cq_tail.specs.Tailers.{TailerFacts}
use Rattle.cq_words.specs.Values.{QueueFacts}
use Rattle.linnetshelf.specs.Answers.{append_status, found_answer}
use Rattle.linnetshelf.specs.Statuses.{number}
use Rattle.linnetshelf.specs.declared.answer.Answer.{Answer}
use Rattle.linnetshelf.specs.declared.many.AppendStop.{AppendStop}
use Rattle.linnetshelf.specs.declared.many.AppendStop.TheVariants as stop
use Rattle.linnetshelf.specs.declared.many.Appended.{Appended}
use Rattle.linnetshelf.specs.declared.many.Many.{Many}
use Rattle.linnetshelf.specs.declared.many.ManyRead.{ManyRead}
use Rattle.linnetshelf.specs.declared.status.Status.{Status}
use Rattle.linnetshelf.specs.declared.status.Status.TheVariants as status

-- one call was made for each of these, one after the other: each began where the one before had ended
abbrev pub InTurn : {S X : Type 0} → (S → X → S → Type 0) → S → List X → S → Type 0
InTurn call old [] new = new ≡ old
InTurn call old (x ∷ xs) new = (between : _) × call old x between × InTurn call between xs new

-- where a call is that appends many messages: what its appender is at, the bytes that are left, and the index of the last
-- message that it appended, or 0
pub record Appending : Type 0 where
  pub work : Work
  pub bytes : List ℕ
  pub last : ℕ

-- these
abbrev pub appending : Work → List ℕ → ℕ → Appending
appending work bytes last = record { work = work; bytes = bytes; last = last }

-- the first bytes that were left, of this length, were appended, as one append does it
pub record AppendsFront (queue : QueueFacts) (moment : ℕ) (old : Appending) (len : ℕ) (new : Appending) : Type 0 where
  pub within : len ≤ length old.bytes
  pub appends : Appends queue old.work moment (take len old.bytes) new.work (Ok new.last)
  pub rest : new.bytes ≡ drop len old.bytes

-- why the next message was not appended, which has this length: fewer bytes are left; or one append is refused so
abbrev pub StopsAppending : QueueFacts → ℕ → Work → List ℕ → ℕ → Work → AppendStop → Type 0
StopsAppending queue moment old bytes len new (stop.Short needed) =
    (needed ≡ len) × (length bytes < len) × (new ≡ old)
StopsAppending queue moment old bytes len new (stop.Refused fault) =
    (len ≤ length bytes) × Appends queue old moment (take len bytes) new (Err fault)

-- after this many appends all were made; or the next one was not, for this reason
abbrev pub AppendsNoMore : QueueFacts → ℕ → Appending → List ℕ → ℕ → Work → Option AppendStop → Type 0
AppendsNoMore queue moment at lengths count new None = (count ≡ length lengths) × (new ≡ at.work)
AppendsNoMore queue moment at lengths count new (Some why) =
    (count < length lengths) × StopsAppending queue moment at.work at.bytes (slice_index lengths count) new why

-- the first messages of these lengths were appended in turn, and then no more
pub record AppendsMany (queue : QueueFacts) (old : Work) (moment : ℕ) (bytes lengths : List ℕ) (new : Work) (said : Appended)
    : Type 0 where
  pub at : Appending
  pub appended : InTurn (AppendsFront queue moment) (appending old bytes 0) (take said.count lengths) at
  pub last : said.last ≡ at.last
  pub no_more : AppendsNoMore queue moment at lengths said.count new said.stop

-- where a call is that reads many messages: its tailer, the bytes that it read, what is left of the room, and the index of the
-- last message that it read, or 0
pub record Reading : Type 0 where
  pub tailer : TailerFacts
  pub bytes : List ℕ
  pub room : List ℕ
  pub last : ℕ

-- these
abbrev pub reading : TailerFacts → List ℕ → List ℕ → ℕ → Reading
reading tailer bytes room last = record { tailer = tailer; bytes = bytes; room = room; last = last }

-- the next message was read into the room that was left, as one read does it, and this is what that answers C
pub record ReadsFront (queue : QueueFacts) (old : Reading) (answer : Answer) (new : Reading) : Type 0 where
  pub len : ℕ
  pub full : List ℕ
  pub reads : NextIntoSays queue old.tailer new.tailer old.room full (found.Message new.last len)
  pub within : len ≤ length full
  pub bytes : new.bytes ≡ old.bytes ++ take len full
  pub rest : new.room ≡ drop len full
  pub answer_is : answer ≡ found_answer (found.Message new.last len)

-- a read of the next message that read none
abbrev pub ReadsNone : NextInto → Type 0
ReadsNone (found.Message i len) = ⊥
ReadsNone (found.NoRoom len) = ⊤
ReadsNone found.NotYet = ⊤
ReadsNone found.Finished = ⊤
ReadsNone found.BeforeStart = ⊤

-- after this many reads all were made; or the next one read none
abbrev pub ReadsNoMore : QueueFacts → Reading → ℕ → ℕ → TailerFacts → List ℕ → Option NextInto → Type 0
ReadsNoMore queue at asked count new room None =
    (count ≡ asked) × (new ≡ at.tailer) × (room ≡ at.bytes ++ at.room)
ReadsNoMore queue at asked count new room (Some why) = (count < asked) × ReadsNone why
    × ((full : List ℕ) × NextIntoSays queue at.tailer new at.room full why × (room ≡ at.bytes ++ full))

-- messages were read in turn, each with its answer, and then no more
pub record ReadsMany (queue : QueueFacts) (old new : TailerFacts) (room full : List ℕ) (before answers : List Answer)
    (said : ManyRead) : Type 0 where
  pub at : Reading
  pub read : InTurn (ReadsFront queue) (reading old [] room 0) (take said.count answers) at
  pub others : drop said.count answers ≡ drop said.count before
  pub last : said.last ≡ at.last
  pub no_more : ReadsNoMore queue at (length before) said.count new full said.stop

-- how many messages were appended or read, with the index of the last one, and why there are no more
abbrev pub counted : ℕ → ℕ → ℕ → ℕ → Many
counted index count len how = record { index = index; count = count; length = len; status = how }

-- an answer of a status alone
abbrev pub many_plain : Status → Many
many_plain how = counted 0 0 0 (number how)

-- what `append_many` answers, where this is why it appended no more
abbrev pub appended_so : ℕ → ℕ → Option AppendStop → Many
appended_so last count None = counted last count 0 (number status.Done)
appended_so last count (Some (stop.Short len)) = counted last count len (number status.NoRoom)
appended_so last count (Some (stop.Refused fault)) = counted last count 0 (number (append_status fault))

abbrev pub appended_answer : Appended → Many
appended_answer said = appended_so said.last said.count said.stop

-- what `next_many` answers, where this is why it read no more: as a read answers it that found none
abbrev pub read_so : ℕ → ℕ → Option NextInto → Many
read_so last count None = counted last count 0 (number status.Done)
read_so last count (Some why) = counted last count (found_answer why).length (found_answer why).status

abbrev pub read_answer : ManyRead → Many
read_answer said = read_so said.last said.count said.stop
