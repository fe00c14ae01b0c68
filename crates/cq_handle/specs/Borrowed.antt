-- A handle that holds something else.
use Rattle.cq_handle.specs.contracts.handle.Handle.{the_row}
use Rattle.cq_handle.specs.contracts.held.Held.{the_row as held_row}

-- the same handle, with this in it
abbrev pub with_held : the_row.Denot → held_row.Denot → the_row.Denot
with_held h x = record { at = h.at; alloc = h.alloc; held = x }
