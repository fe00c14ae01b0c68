-- Why calls of a shelf are refused.
use Rattle.std.specs.Prelude.{◌<◌, ◌≤◌, ⊤, ℕ}
use Rattle.cq_cycle.specs.Cycle.{IsMoment}
use Rattle.cq_model.specs.Settings.{Settings}
use Rattle.cq_row.specs.declared.fault.ShelfFault.{ShelfFault}
use Rattle.cq_row.specs.declared.fault.ShelfFault.TheVariants.{BadMoment, BadShelf, Busy, Closed, Full, NoSuchName, OutOfMemory}
use Rattle.cq_model.specs.declared.take_fault.TakeFault.{TakeFault}
use Rattle.cq_model.specs.declared.take_fault.TakeFault.TheVariants as take_fault

-- why nothing was taken
abbrev pub fault_of : TakeFault → ShelfFault
fault_of take_fault.NoSuchName = NoSuchName
fault_of take_fault.OutOfMemory = OutOfMemory

-- the moment lies in a cycle of a queue with these settings
abbrev pub LiesInCycle : Settings → ℕ → Type 0
LiesInCycle settings moment = IsMoment settings.roll settings.epoch moment

-- why no queue was made that was to begin with the cycle of this moment
abbrev pub IsMakeFault : Settings → ℕ → ShelfFault → Type 0
IsMakeFault settings moment BadMoment = ¬ LiesInCycle settings moment
IsMakeFault settings moment OutOfMemory = ⊤
IsMakeFault settings moment _ = ⊥

-- why no row of this many places was made, whose first queue was to begin with the cycle of this moment
abbrev pub IsRowFault : Settings → ℕ → ℕ → ShelfFault → Type 0
IsRowFault settings places moment BadShelf = places < 2
IsRowFault settings places moment BadMoment = (2 ≤ places) × (¬ LiesInCycle settings moment)
IsRowFault settings places moment OutOfMemory = 2 ≤ places
IsRowFault settings places moment _ = ⊥

-- why the next queue was not begun with the cycle of this moment
abbrev pub IsBeginFault : Settings → ℕ → ShelfFault → Type 0
IsBeginFault settings moment Busy = ⊤
IsBeginFault settings moment Full = ⊤
IsBeginFault settings moment Closed = ⊤
IsBeginFault settings moment BadMoment = ¬ LiesInCycle settings moment
IsBeginFault settings moment OutOfMemory = ⊤
IsBeginFault settings moment _ = ⊥

-- why an endpoint did not come to another queue
abbrev pub IsStepFault : ShelfFault → Type 0
IsStepFault Busy = ⊤
IsStepFault OutOfMemory = ⊤
IsStepFault _ = ⊥
