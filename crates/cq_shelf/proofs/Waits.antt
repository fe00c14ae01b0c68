-- Tries, after which there are others.
use Rattle.std.proofs.Common.{◌+◌, Result}
use Rattle.cq_row.specs.declared.fault.ShelfFault.{ShelfFault}
use Rattle.cq_shelf.specs.Waits.{Again, Waits}
use Rattle.cq_shelf.specs.Ways.{Comes, on, stays}

module _ {S B : Type 0} (tries : S → S → Result B ShelfFault → Type 0) (waits : Result B ShelfFault → Type 0) (old : S) where
  -- one try was enough
  pub once : (new : S) (said : Result B ShelfFault) → tries old new said → Waits tries waits old new said
  once new said tried = record { last = old; passed = (0, stays); tried = tried }

  module _ (there new : S) (passed : Comes (Again tries waits) old there) (said : Result B ShelfFault)
      (tried : tries there new said) where
    -- it was the last one
    pub at_last : Waits tries waits old new said
    at_last = record { last = there; passed = passed; tried = tried }

    -- or there is another one
    pub again : waits said → Comes (Again tries waits) old new
    again says = (passed.0 + 1, on passed.0 there new passed.1 (record { said = said; tried = tried; is_to_wait = says }))
