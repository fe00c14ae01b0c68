-- What the answers of calls on a shelf are for C.
use Rattle.std.specs.Prelude.{ℕ, Bool, true, false, Result, Ok, Err}
use Rattle.cq_endpoint.specs.declared.fault.CompleteFault.{CompleteFault}
use Rattle.cq_endpoint.specs.declared.fault.CompleteFault.TheVariants as incomplete
use Rattle.cq_row.specs.declared.fault.ShelfFault.{ShelfFault}
use Rattle.cq_row.specs.declared.fault.ShelfFault.TheVariants as fault
use Rattle.cq_row.specs.declared.place.Position.{Position}
use Rattle.cq_shelf.specs.declared.answers.ShelfNextInto.{ShelfNextInto}
use Rattle.cq_shelf.specs.declared.answers.ShelfNextInto.TheVariants as next
use Rattle.cq_shelf.specs.declared.answers.ShelfReadAtInto.{ShelfReadAtInto}
use Rattle.cq_shelf.specs.declared.answers.ShelfReadAtInto.TheVariants as at
use Rattle.cq_shelf.specs.declared.answers.ShelfTakenInto.{ShelfTakenInto}
use Rattle.cq_shelf.specs.declared.answers.ShelfTakenInto.TheVariants as take
use Rattle.linnetshelf.specs.Answers.{done, plain, read, too_long}
use Rattle.linnetshelf.specs.Statuses.{number}
use Rattle.linnetshelf.specs.declared.answer.Answer.{Answer}
use Rattle.linnetshelf.specs.declared.shelf_answer.ShelfAnswer.{ShelfAnswer}
use Rattle.linnetshelf.specs.declared.status.Status.{Status}
use Rattle.linnetshelf.specs.declared.status.Status.TheVariants as status

-- an answer of the number of a queue, an index, a length and a status
abbrev pub shelf_answer_of : ℕ → ℕ → ℕ → Status → ShelfAnswer
shelf_answer_of queue index len how = record { queue = queue; index = index; length = len; status = number how }

-- an answer of a status alone
abbrev pub shelf_plain : Status → ShelfAnswer
shelf_plain how = shelf_answer_of 0 0 0 how

-- it is done, at this position; a message that was read there has this length
abbrev pub placed : Position → ℕ → ShelfAnswer
placed here len = shelf_answer_of here.queue here.index len status.Done

-- a message of this length was not read: the buffer is too small
abbrev pub longer : ℕ → ShelfAnswer
longer len = shelf_answer_of 0 0 len status.NoRoom

-- a name was found at this position
abbrev pub moved_to : Position → ShelfAnswer
moved_to here = shelf_answer_of here.queue here.index 0 status.Moved

-- this many queues were dropped before they were read
abbrev pub missed : ℕ → ShelfAnswer
missed count = shelf_answer_of 0 count 0 status.Missed

-- why a call on a shelf was refused
abbrev pub fault_status : ShelfFault → Status
fault_status fault.Writing = status.Writing
fault_status fault.BadRoom = status.BadRoom
fault_status fault.BadMoment = status.BadMoment
fault_status fault.Busy = status.Busy
fault_status fault.Full = status.Full
fault_status fault.Closed = status.Closed
fault_status fault.BadShelf = status.BadShelf
fault_status fault.NoSuchName = status.NoSuchName
fault_status fault.OutOfMemory = status.OutOfMemory

-- what `append` and `position` answer
abbrev pub place_answer : Result Position ShelfFault → ShelfAnswer
place_answer (Ok here) = placed here 0
place_answer (Err cause) = shelf_plain (fault_status cause)

-- what `complete` answers
abbrev pub complete_answer : Result Position CompleteFault → ShelfAnswer
complete_answer (Ok here) = placed here 0
complete_answer (Err incomplete.NotWriting) = shelf_plain status.NotWriting
complete_answer (Err incomplete.EmptyMessage) = shelf_plain status.EmptyMessage

-- what `advance` answers: a cycle
abbrev pub cycle_answer : Result ℕ ShelfFault → Answer
cycle_answer (Ok cycle) = done cycle
cycle_answer (Err cause) = plain (fault_status cause)

-- what a call answers that is done or refused
abbrev pub done_answer : Result Unit ShelfFault → ℕ
done_answer (Ok u) = number status.Done
done_answer (Err cause) = number (fault_status cause)

-- what `move_to` answers
abbrev pub move_answer : Result Bool ShelfFault → ℕ
move_answer (Ok true) = number status.Done
move_answer (Ok false) = number status.NoMessage
move_answer (Err cause) = number (fault_status cause)

-- what `next` answers
abbrev pub next_answer : Result ShelfNextInto ShelfFault → ShelfAnswer
next_answer (Ok (next.Message here len)) = placed here len
next_answer (Ok (next.NoRoom len)) = longer len
next_answer (Ok next.NotYet) = shelf_plain status.NotYet
next_answer (Ok next.Finished) = shelf_plain status.Finished
next_answer (Ok next.BeforeStart) = shelf_plain status.BeforeStart
next_answer (Ok (next.Missed count)) = missed count
next_answer (Err cause) = shelf_plain (fault_status cause)

-- what `read_at` answers
abbrev pub read_at_answer : Result ShelfReadAtInto ShelfFault → Answer
read_at_answer (Ok (at.Message len)) = read 0 len
read_at_answer (Ok (at.NoRoom len)) = too_long len
read_at_answer (Ok at.NotYet) = plain status.NotYet
read_at_answer (Ok at.Never) = plain status.Never
read_at_answer (Ok at.Gone) = plain status.Gone
read_at_answer (Err cause) = plain (fault_status cause)

-- what `take` answers
abbrev pub take_answer : Result ShelfTakenInto ShelfFault → ShelfAnswer
take_answer (Ok (take.Taken here len)) = placed here len
take_answer (Ok (take.NoRoom len)) = longer len
take_answer (Ok take.NotYet) = shelf_plain status.NotYet
take_answer (Ok take.Finished) = shelf_plain status.Finished
take_answer (Ok (take.Moved here)) = moved_to here
take_answer (Ok (take.Missed count)) = missed count
take_answer (Err cause) = shelf_plain (fault_status cause)
