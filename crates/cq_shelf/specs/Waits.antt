-- What calls say that wait: they try again until there is an answer, or the time is up.
use Rattle.std.specs.Prelude.{⊤, Result, Ok, Err}
use Rattle.cq_row.specs.declared.fault.ShelfFault.{ShelfFault}
use Rattle.cq_row.specs.declared.fault.ShelfFault.TheVariants as fault
use Rattle.cq_row.specs.declared.place.Position.{Position}
use Rattle.cq_shelf.specs.Ways.{Comes}
use Rattle.cq_shelf.specs.declared.answers.ShelfNext.{ShelfNext}
use Rattle.cq_shelf.specs.declared.answers.ShelfNext.TheVariants as shelf_next
use Rattle.cq_shelf.specs.declared.answers.ShelfTaken.{ShelfTaken}
use Rattle.cq_shelf.specs.declared.answers.ShelfTaken.TheVariants as shelf_taken

-- a try, after which there is another one
pub record Again {S B : Type 0} (tries : S → S → Result B ShelfFault → Type 0) (waits : Result B ShelfFault → Type 0)
    (old new : S) : Type 0 where
  pub said : Result B ShelfFault
  pub tried : tries old new said
  pub is_to_wait : waits said

-- after such tries the last one returned this
pub record Waits {S B : Type 0} (tries : S → S → Result B ShelfFault → Type 0) (waits : Result B ShelfFault → Type 0)
    (old new : S) (said : Result B ShelfFault) : Type 0 where
  pub last : S
  pub passed : Comes (Again tries waits) old last
  pub tried : tries last new said

-- which errors pass by themselves: others go on at the same moment, or the shelf is full
abbrev pub PassesBy : ShelfFault → Type 0
PassesBy fault.Writing = ⊥
PassesBy fault.BadRoom = ⊥
PassesBy fault.BadMoment = ⊥
PassesBy fault.Busy = ⊤
PassesBy fault.Full = ⊤
PassesBy fault.Closed = ⊥
PassesBy fault.BadShelf = ⊥
PassesBy fault.NoSuchName = ⊥
PassesBy fault.OutOfMemory = ⊥

-- after which answers there is another try
abbrev pub NextWaits : Result ShelfNext ShelfFault → Type 0
NextWaits (Ok (shelf_next.Message at m)) = ⊥
NextWaits (Ok shelf_next.NotYet) = ⊤
NextWaits (Ok shelf_next.Finished) = ⊥
NextWaits (Ok shelf_next.BeforeStart) = ⊥
NextWaits (Ok (shelf_next.Missed n)) = ⊥
NextWaits (Err e) = PassesBy e

abbrev pub TakeWaits : Result ShelfTaken ShelfFault → Type 0
TakeWaits (Ok (shelf_taken.Taken at m)) = ⊥
TakeWaits (Ok shelf_taken.NotYet) = ⊤
TakeWaits (Ok shelf_taken.Finished) = ⊥
TakeWaits (Ok (shelf_taken.Moved at)) = ⊤
TakeWaits (Ok (shelf_taken.Missed n)) = ⊥
TakeWaits (Err e) = PassesBy e

abbrev pub AppendWaits : Result Position ShelfFault → Type 0
AppendWaits (Ok at) = ⊥
AppendWaits (Err e) = PassesBy e
