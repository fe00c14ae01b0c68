-- What is made of a shelf and of its endpoints.
use Rattle.std.specs.Prelude.{◌≡◌, List, ℕ, string_bytes}
use Rattle.cq_model.specs.Settings.{Declares, IsNameAt, Settings}
use Rattle.cq_row.specs.Ways.{Enters}
use Rattle.cq_row.specs.declared.fault.ShelfFault.{ShelfFault}
use Rattle.cq_row.specs.declared.fault.ShelfFault.TheVariants.{Busy, NoSuchName, OutOfMemory}
use Rattle.cq_row.specs.declared.row.Row.{Row}
use Rattle.cq_shelf.specs.declared.taker.ShelfTaker.{ShelfTaker}

-- a taker of this row by this name that has made no call yet
pub record TakesBy (row : Row) (name : List ℕ) (t : ShelfTaker) : Type 0 where
  pub is_named : string_bytes t.name ≡ name
  pub index_is : IsNameAt row.config name t.index
  pub enters : Enters row t.place.number t.place

-- why no taker by this name was made
abbrev pub IsTakerFault : Settings → List ℕ → ShelfFault → Type 0
IsTakerFault settings name NoSuchName = ¬ Declares settings name
IsTakerFault settings name Busy = Declares settings name
IsTakerFault settings name OutOfMemory = Declares settings name
IsTakerFault settings name _ = ⊥
