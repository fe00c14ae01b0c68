-- What the calls on shelves say.
use Rattle.std.specs.Arc.{arc_value}
use Rattle.std.specs.Prelude.{◌≡◌, ◌≢◌, ◌⊎◌, Bool, ℕ, List, MatchResult, Option, Some, None, Result, Ok, Err, string_bytes}
use Rattle.std.specs.Str.{IsUtf8}
use Rattle.cq_handle.specs.declared.held.Held.{Held}
use Rattle.cq_handle.specs.declared.held.Held.TheVariants as held
use Rattle.cq_handle.specs.declared.held.ShelfUser.{ShelfUser}
use Rattle.cq_handle.specs.declared.held.ShelfUser.TheVariants as user
use Rattle.cq_model.specs.Settings as model
use Rattle.cq_row.specs.Faults.{IsRowFault}
use Rattle.cq_row.specs.Rows.{IsFirstPlace}
use Rattle.cq_row.specs.Ways.{HasSplit, SplitsNot, StaysThere}
use Rattle.cq_row.specs.declared.fault.ShelfFault.{ShelfFault}
use Rattle.cq_row.specs.declared.fault.ShelfFault.TheVariants.{NoSuchName}
use Rattle.cq_row.specs.declared.place.Place.{Place}
use Rattle.cq_row.specs.declared.place.Position.{Position}
use Rattle.cq_row.specs.declared.row.AtLimit.{AtLimit}
use Rattle.cq_row.specs.declared.row.AtLimit.TheVariants as limit
use Rattle.cq_shelf.specs.Makes.{IsTakerFault, TakesBy}
use Rattle.cq_shelf.specs.Reads.{PositionOn}
use Rattle.cq_shelf.specs.Seeks.{EndsNot, MovesOn, ReadsAtIntoOn, ToEnd, ToStart, turned}
use Rattle.cq_shelf.specs.Ways.{Comes}
use Rattle.cq_shelf.specs.Writes.{ClosesLast, ClosesNot, Follows, FollowsNot}
use Rattle.cq_shelf.specs.declared.answers.ShelfReadAtInto.{ShelfReadAtInto}
use Rattle.cq_shelf.specs.declared.reader.ShelfReader.{ShelfReader}
use Rattle.cq_shelf.specs.declared.writer.ShelfWriter.{ShelfWriter}
use Rattle.cq_model.specs.declared.direction.Direction.{Direction}
use Rattle.linnetshelf.specs.Answers.{Tells, done, plain}
use Rattle.linnetshelf.specs.Asked.{IsAsked, IsNotMade}
use Rattle.linnetshelf.specs.Makes.{HandsOut}
use Rattle.linnetshelf.specs.Reads.{HasNoDirection, direction_number}
use Rattle.linnetshelf.specs.ShelfAnswers.{fault_status, place_answer, placed, shelf_plain}
use Rattle.linnetshelf.specs.declared.answer.Answer.{Answer}
use Rattle.linnetshelf.specs.declared.shelf_answer.ShelfAnswer.{ShelfAnswer}
use Rattle.linnetshelf.specs.declared.shelf_settings.ShelfSettings.{ShelfSettings}
use Rattle.linnetshelf.specs.declared.status.Status.{Status}
use Rattle.linnetshelf.specs.declared.status.Status.TheVariants as status

-- the number that C has for what happens at the limit
abbrev pub limit_number : AtLimit → ℕ
limit_number limit.Refuse = 0
limit_number limit.DropOldest = 1

-- nothing that happens at the limit has this number
abbrev pub HasNoLimit : ℕ → Type 0
HasNoLimit number = (at_limit : AtLimit) → limit_number at_limit ≢ number

-- the position of a queue and an index
abbrev pub position_of : ℕ → ℕ → Position
position_of queue index = record { queue = queue; index = index }

-- the position of a reader or a taker was told; of a writer nothing, and it stays as it was
abbrev pub TellsPlace : ShelfUser → ShelfUser → ShelfAnswer → Type 0
TellsPlace (user.Writer old) new answer = (answer ≡ shelf_plain status.WrongKind) × (new ≡ user.Writer old)
TellsPlace (user.Reader old) (user.Reader new) answer =
    (answer ≡ placed (position_of old.place.number old.place.endpoint.tailer.cursor) 0) × (new ≡ old)
TellsPlace (user.Reader old) _ answer = ⊥
TellsPlace (user.Taker old) (user.Taker new) answer = Tells (PositionOn old new) place_answer answer
TellsPlace (user.Taker old) _ answer = ⊥

-- the number of the queue of a writer or a reader was told; of a taker nothing
abbrev pub TellsQueue : ShelfUser → Answer → Type 0
TellsQueue (user.Writer writer) answer = answer ≡ done writer.place.number
TellsQueue (user.Reader reader) answer = answer ≡ done reader.place.number
TellsQueue (user.Taker taker) answer = answer ≡ plain status.WrongKind

-- what was made of a shelf is handed out; or why nothing was made, and what was there stays
abbrev pub HandsOutUser : Result ShelfUser ShelfFault → Held → Held → Status → Type 0
HandsOutUser (Ok made) old new how = HandsOut old (held.Shelf made) new how
HandsOutUser (Err fault) old new how = (how ≡ fault_status fault) × (new ≡ old)

-- something was made of a shelf, and handed out; or nothing was
pub record GivesUser (Made : Result ShelfUser ShelfFault → Type 0) (old new : Held) (how : Status) : Type 0 where
  pub made : Result ShelfUser ShelfFault
  pub says : Made made
  pub hands_out : HandsOutUser made old new how

-- another user of the kind of this one was split off it
abbrev pub SplitsUser : ShelfUser → ShelfUser → Result ShelfUser ShelfFault → Type 0
SplitsUser (user.Writer old) (user.Writer new) (Ok (user.Writer made)) = HasSplit old.place new.place made.place
SplitsUser (user.Writer old) (user.Writer new) (Err fault) = SplitsNot old.place new.place fault
SplitsUser (user.Reader old) (user.Reader new) (Ok (user.Reader made)) = HasSplit old.place new.place made.place
SplitsUser (user.Reader old) (user.Reader new) (Err fault) = SplitsNot old.place new.place fault
SplitsUser (user.Taker old) (user.Taker new) (Ok (user.Taker made)) =
    TakesBy (arc_value old.place.row) (string_bytes old.name) made × (new ≡ old)
SplitsUser (user.Taker old) (user.Taker new) (Err fault) =
    IsTakerFault (arc_value old.place.row).config (string_bytes old.name) fault × (new ≡ old)
SplitsUser _ _ _ = ⊥

-- a reader was made at the queue of a writer
abbrev pub MakesReader : ShelfWriter → ShelfWriter → Result ShelfUser ShelfFault → Type 0
MakesReader old new (Ok (user.Reader made)) = HasSplit old.place new.place made.place
MakesReader old new (Err fault) = SplitsNot old.place new.place fault
MakesReader _ _ _ = ⊥

-- why no taker was made by this name: it is no text, or the shelf refused it
abbrev pub IsNoTaker : model.Settings → List ℕ → ShelfFault → Type 0
IsNoTaker settings name fault = ((fault ≡ NoSuchName) × (¬ IsUtf8 name)) ⊎ IsTakerFault settings name fault

-- a taker was made by this name
abbrev pub MakesTaker : ShelfWriter → List ℕ → Result ShelfUser ShelfFault → Type 0
MakesTaker writer name (Ok (user.Taker made)) = TakesBy (arc_value writer.place.row) name made
MakesTaker writer name (Err fault) = IsNoTaker (arc_value writer.place.row).config name fault
MakesTaker _ _ _ = ⊥

-- the first writer of a shelf, as it was asked for: its first queue begins with the cycle of this moment
pub record IsShelf (s : ShelfSettings) (text : List ℕ) (moment : ℕ) (writer : ShelfWriter) : Type 0 where
  pub settings : model.Settings
  pub asked : IsAsked s.queue text settings
  pub at_limit : AtLimit
  pub numbered : limit_number at_limit ≡ s.at_limit
  pub first : IsFirstPlace settings s.most at_limit moment writer.place

-- a shelf that can be asked for, and was refused for this
pub record RefusesShelf (s : ShelfSettings) (text : List ℕ) (moment : ℕ) (how : Status) : Type 0 where
  pub settings : model.Settings
  pub asked : IsAsked s.queue text settings
  pub at_limit : AtLimit
  pub numbered : limit_number at_limit ≡ s.at_limit
  pub fault : ShelfFault
  pub refused : IsRowFault settings s.most moment fault
  pub how_is : how ≡ fault_status fault

-- why no shelf was made
abbrev pub FailsToMakeShelf : ShelfSettings → List ℕ → ℕ → Status → Type 0
FailsToMakeShelf s text moment how =
    IsNotMade s.queue text how ⊎ (((how ≡ status.BadSettings) × HasNoLimit s.at_limit) ⊎ RefusesShelf s text moment how)

-- a shelf was made as it was asked for, or why not
abbrev pub MakesShelf : ShelfSettings → List ℕ → ℕ → Result ShelfWriter Status → Type 0
MakesShelf s text moment (Ok writer) = IsShelf s text moment writer
MakesShelf s text moment (Err how) = FailsToMakeShelf s text moment how

-- the first writer of a shelf was handed out, as it was asked for
pub record HandsOutShelf (s : ShelfSettings) (text : List ℕ) (moment : ℕ) (new : Held) : Type 0 where
  pub writer : ShelfWriter
  pub made : IsShelf s text moment writer
  pub new_is : new ≡ held.Shelf (user.Writer writer)

-- a shelf was made, and its first writer handed out; or nothing was
abbrev pub CreatesShelf : ShelfSettings → List ℕ → ℕ → Held → Held → Status → Type 0
CreatesShelf s text moment old new how = ((how ≡ status.Done) × HandsOutShelf s text moment new)
    ⊎ (FailsToMakeShelf s text moment how × (new ≡ old))

-- a writer went on to the last queue, or as far as it came
abbrev pub FollowsOn : Place → Place → Result Unit ShelfFault → Type 0
FollowsOn old new result = MatchResult result (λ _. Comes Follows old new) (FollowsNot old new)

-- a writer closed the shelf at the last queue, or why it did not
abbrev pub ClosesOn : Place → Place → Result Unit ShelfFault → Type 0
ClosesOn old new result = MatchResult result (λ _. ClosesLast old new) (ClosesNot old new)

-- what is at this index of this queue was read into a buffer; or why not, and nothing changed
abbrev pub ReadsOn : ℕ → ℕ → Place → List ℕ → Place → List ℕ → Result ShelfReadAtInto ShelfFault → Type 0
ReadsOn queue index old room new full result =
    MatchResult result (ReadsAtIntoOn (position_of queue index) old room new full)
    (λ fault. (queue ≢ old.number) × StaysThere old new fault × (full ≡ room))

-- the reader moved to this index of this queue, if a message is there; or why not, and it stayed
abbrev pub MovesTo : ℕ → ℕ → Place → Place → Result Bool ShelfFault → Type 0
MovesTo queue index old new result = MatchResult result (MovesOn (position_of queue index) old new) (StaysThere old new)

-- the reader moved to the start, or stayed
abbrev pub StartsOn : Place → Place → Result Unit ShelfFault → Type 0
StartsOn old new result = MatchResult result (λ _. ToStart old new) (StaysThere old new)

-- the reader moved to the end, or as far as it came
abbrev pub EndsOn : Place → Place → Result Unit ShelfFault → Type 0
EndsOn old new result = MatchResult result (λ _. ToEnd old new) (EndsNot old new)

-- the reader reads the way now that has this number; or none has it, and nothing changed
abbrev pub TurnsReader : ShelfReader → ShelfReader → ℕ → Option Direction → Type 0
TurnsReader old new way (Some one) = (direction_number one ≡ way) × (new.place ≡ turned old.place one)
TurnsReader old new way None = HasNoDirection way × (new ≡ old)
