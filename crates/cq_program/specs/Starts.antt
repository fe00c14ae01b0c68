-- Which orders need no live queue, which are run over a folder with its log, and which are done at once.
use Rattle.std.specs.Prelude.{⊤}
use Rattle.cq_orders.specs.declared.order.Order.{Order}
use Rattle.cq_orders.specs.declared.order.Order.TheVariants.{Explain, Follow, Log, New, Race, TakeBy, Write, WriteBy}

-- the order is not for a queue that is live
abbrev pub IsBasic : Order → Type 0
IsBasic (Race messages) = ⊥
IsBasic (Log folder settings) = ⊥
IsBasic order = ⊤

-- the order is for one caller, and is run over a folder that is seen with what its log gives. An order for no folder uses none
abbrev pub IsForOne : Order → Type 0
IsForOne (Race messages) = ⊥
IsForOne (Log folder settings) = ⊥
IsForOne (New folder settings) = ⊥
IsForOne (Explain words) = ⊥
IsForOne order = ⊤

-- the order is for one caller, appends no message, and waits for none
abbrev pub IsDoneAtOnce : Order → Type 0
IsDoneAtOnce (Write folder moment) = ⊥
IsDoneAtOnce (WriteBy folder settings) = ⊥
IsDoneAtOnce (Log folder settings) = ⊥
IsDoneAtOnce (Follow folder settings seconds) = ⊥
IsDoneAtOnce (TakeBy folder name settings) = ⊥
IsDoneAtOnce (Race messages) = ⊥
IsDoneAtOnce (New folder settings) = ⊥
IsDoneAtOnce (Explain words) = ⊥
IsDoneAtOnce order = ⊤
