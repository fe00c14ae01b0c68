-- What the answers of calls are for C.
use Rattle.std.specs.Prelude.{◌≡◌, ℕ, Bool, true, false, Option, Some, None, Result, Ok, Err}
use Rattle.cq_endpoint.specs.declared.answers.NextInto.{NextInto}
use Rattle.cq_endpoint.specs.declared.answers.NextInto.TheVariants as found
use Rattle.cq_endpoint.specs.declared.answers.NextPeeked.{NextPeeked}
use Rattle.cq_endpoint.specs.declared.answers.NextPeeked.TheVariants as peeked
use Rattle.cq_endpoint.specs.declared.answers.ReadAtInto.{ReadAtInto}
use Rattle.cq_endpoint.specs.declared.answers.ReadAtInto.TheVariants as at
use Rattle.cq_endpoint.specs.declared.answers.TakenInto.{TakenInto}
use Rattle.cq_endpoint.specs.declared.answers.TakenInto.TheVariants as take
use Rattle.cq_endpoint.specs.declared.fault.AppendFault.{AppendFault}
use Rattle.cq_endpoint.specs.declared.fault.AppendFault.TheVariants as refused
use Rattle.cq_endpoint.specs.declared.fault.CloseFault.{CloseFault}
use Rattle.cq_endpoint.specs.declared.fault.CloseFault.TheVariants as unclosed
use Rattle.cq_endpoint.specs.declared.fault.CompleteFault.{CompleteFault}
use Rattle.cq_endpoint.specs.declared.fault.CompleteFault.TheVariants as incomplete
use Rattle.cq_endpoint.specs.declared.fault.NotSeen.{NotSeen}
use Rattle.cq_endpoint.specs.declared.fault.NotWriting.{NotWriting}
use Rattle.cq_endpoint.specs.declared.fault.PutFault.{PutFault}
use Rattle.cq_endpoint.specs.declared.fault.PutFault.TheVariants as unput
use Rattle.cq_endpoint.specs.declared.fault.SeekFault.{SeekFault}
use Rattle.cq_endpoint.specs.declared.fault.SeekFault.TheVariants as unsought
use Rattle.cq_image.specs.declared.fault.FaultKind.{FaultKind}
use Rattle.cq_image.specs.declared.fault.FaultKind.TheVariants as kind
use Rattle.cq_layout.specs.declared.refusal.Refusal.{Refusal}
use Rattle.cq_layout.specs.declared.refusal.Refusal.TheVariants as refusal
use Rattle.cq_saved.specs.declared.fault.AddFault.{AddFault}
use Rattle.cq_saved.specs.declared.fault.AddFault.TheVariants as unadded
use Rattle.cq_saved.specs.declared.fault.NoSuchPlace.{NoSuchPlace}
use Rattle.cq_model.specs.declared.direction.Direction.{Direction}
use Rattle.cq_tail.specs.declared.answers.Sought.{Sought}
use Rattle.cq_tail.specs.declared.answers.Sought.TheVariants as sought
use Rattle.cq_tail.specs.declared.error.NoSuchName.{NoSuchName}
use Rattle.linnetshelf.specs.Statuses.{number}
use Rattle.linnetshelf.specs.declared.answer.Answer.{Answer}
use Rattle.linnetshelf.specs.declared.status.Status.{Status}
use Rattle.linnetshelf.specs.declared.status.Status.TheVariants as status

-- an answer of a number, a length and a status
abbrev pub answer_of : ℕ → ℕ → Status → Answer
answer_of index len how = record { index = index; length = len; status = number how }

-- an answer of a status alone
abbrev pub plain : Status → Answer
plain how = answer_of 0 0 how

-- it is done, and tells a number
abbrev pub done : ℕ → Answer
done index = answer_of index 0 status.Done

-- some outcome of the call holds, and C is answered what stands for it
pub record Tells {R A : Type 0} (Says : R → Type 0) (answer_of : R → A) (answer : A) : Type 0 where
  pub outcome : R
  pub says : Says outcome
  pub answer_is : answer ≡ answer_of outcome

-- why an appender is refused
abbrev pub refusal_status : Refusal → Status
refusal_status refusal.BadRoom = status.BadRoom
refusal_status refusal.BadMoment = status.BadMoment
refusal_status refusal.Busy = status.Busy
refusal_status refusal.NoCycleLeft = status.NoCycleLeft
refusal_status refusal.CycleFull = status.CycleFull

-- why nothing was appended or begun
abbrev pub append_status : AppendFault → Status
append_status refused.Writing = status.Writing
append_status refused.Closed = status.Closed
append_status (refused.Refused cause) = refusal_status cause

-- what `append` and `advance` answer: an index or a cycle
abbrev pub append_answer : Result ℕ AppendFault → Answer
append_answer (Ok index) = done index
append_answer (Err fault) = plain (append_status fault)

-- what `begin` answers
abbrev pub begin_answer : Result Unit AppendFault → ℕ
begin_answer (Ok u) = number status.Done
begin_answer (Err fault) = number (append_status fault)

-- what `close` answers
abbrev pub close_answer : Result Unit CloseFault → ℕ
close_answer (Ok u) = number status.Done
close_answer (Err unclosed.Writing) = number status.Writing
close_answer (Err unclosed.Closed) = number status.Closed
close_answer (Err (unclosed.Refused cause)) = number (refusal_status cause)

-- what `put` answers
abbrev pub put_answer : Result Unit PutFault → ℕ
put_answer (Ok u) = number status.Done
put_answer (Err unput.NotWriting) = number status.NotWriting
put_answer (Err unput.NoRoom) = number status.PastRoom

-- what `complete` answers
abbrev pub complete_answer : Result ℕ CompleteFault → Answer
complete_answer (Ok index) = done index
complete_answer (Err incomplete.NotWriting) = plain status.NotWriting
complete_answer (Err incomplete.EmptyMessage) = plain status.EmptyMessage

-- what `roll_back` answers
abbrev pub roll_back_answer : Result Unit NotWriting → ℕ
roll_back_answer (Ok u) = number status.Done
roll_back_answer (Err e) = number status.NotWriting

-- what `direction` answers
abbrev pub direction_answer : Option Direction → ℕ
direction_answer (Some turned) = number status.Done
direction_answer None = number status.BadDirection

-- what `end` answers
abbrev pub end_answer : Option ℕ → Answer
end_answer (Some end) = done end
end_answer None = plain status.OutOfMemory

-- what `move_to` answers
abbrev pub move_answer : Bool → ℕ
move_answer true = number status.Done
move_answer false = number status.NoMessage

-- what `drop_before` answers
abbrev pub drop_answer : Result ℕ NotSeen → Answer
drop_answer (Ok floor) = done floor
drop_answer (Err e) = plain status.NotSeen

-- what `position` answers
abbrev pub position_answer : Result ℕ NoSuchName → Answer
position_answer (Ok position) = done position
position_answer (Err e) = plain status.NoSuchName

-- a name stands at this position
abbrev pub moved : ℕ → Answer
moved position = answer_of position 0 status.Moved

-- what `seek` answers
abbrev pub seek_answer : Result Sought SeekFault → Answer
seek_answer (Ok sought.Done) = plain status.Done
seek_answer (Ok (sought.Moved position)) = moved position
seek_answer (Err unsought.NotSeen) = plain status.NotSeen
seek_answer (Err unsought.NoSuchName) = plain status.NoSuchName

-- what is wrong with an image
abbrev pub kind_status : FaultKind → Status
kind_status kind.Cut = status.Cut
kind_status kind.BadHeader = status.BadHeader
kind_status kind.Unfinished = status.Unfinished
kind_status kind.WrongStore = status.WrongStore
kind_status kind.WrongTable = status.WrongTable
kind_status kind.BadPadding = status.BadPadding
kind_status kind.AfterEnd = status.AfterEnd
kind_status kind.OverShape = status.OverShape

-- what `saved_add` answers: a fault of the image with its position
abbrev pub add_answer : Result Unit AddFault → Answer
add_answer (Ok u) = plain status.Done
add_answer (Err unadded.BehindOpen) = plain status.BehindOpen
add_answer (Err (unadded.Image fault)) = answer_of fault.at 0 (kind_status fault.kind)
add_answer (Err unadded.OutOfMemory) = plain status.OutOfMemory

-- what a call on the `k`th of something answers that tells a number
abbrev pub number_answer : Result ℕ NoSuchPlace → Answer
number_answer (Ok told) = done told
number_answer (Err e) = plain status.NoSuchPlace

-- a message of this length was read
abbrev pub read : ℕ → ℕ → Answer
read index len = answer_of index len status.Done

-- a message of this length was not read: the room is too small
abbrev pub too_long : ℕ → Answer
too_long len = answer_of 0 len status.NoRoom

-- what `next` answers
abbrev pub found_answer : NextInto → Answer
found_answer (found.Message index len) = read index len
found_answer (found.NoRoom len) = too_long len
found_answer found.NotYet = plain status.NotYet
found_answer found.Finished = plain status.Finished
found_answer found.BeforeStart = plain status.BeforeStart

-- what `peek` answers: the index and the length of the message
abbrev pub peek_answer : NextPeeked → Answer
peek_answer (peeked.Message index len) = read index len
peek_answer peeked.NotYet = plain status.NotYet
peek_answer peeked.Finished = plain status.Finished
peek_answer peeked.BeforeStart = plain status.BeforeStart

-- what `read_at` answers
abbrev pub at_answer : ReadAtInto → Answer
at_answer (at.Message len) = read 0 len
at_answer (at.NoRoom len) = too_long len
at_answer at.NotYet = plain status.NotYet
at_answer at.Finished = plain status.Finished
at_answer at.Never = plain status.Never
at_answer at.Gone = plain status.Gone

-- what a take by a name that the queue declares answers
abbrev pub took_answer : TakenInto → Answer
took_answer (take.Taken index len) = read index len
took_answer (take.NoRoom len) = too_long len
took_answer take.NotYet = plain status.NotYet
took_answer take.Finished = plain status.Finished
took_answer (take.Moved position) = moved position

-- what `take` answers
abbrev pub take_answer : Result TakenInto NoSuchName → Answer
take_answer (Ok took) = took_answer took
take_answer (Err e) = plain status.NoSuchName
