-- What a handle owns: what a `Box<Held>` owns.
use base.Fml.{Fml, ffalse, ftrue}
use base.Stored.{Coded}
use denote.RawPtr.{Ptr, block_ptr, null_ptr}
use Rattle.std.specs.Box.Ownership.{box_owns}
use Rattle.std.specs.Coded.{coded_option}
use Rattle.std.specs.Prelude.{Option, None, Some}
use Rattle.std.specs.Global.{Global}
use Rattle.std_heap.specs.contracts.GlobalAllocator.TheImpl.{ghosts}
use Rattle.cq_handle.specs.contracts.held.Held.{the_row}

-- what the box of the same owns
abbrev pub handle_owns : Global → Ptr → the_row.Denot → Fml
handle_owns alloc = box_owns (ghosts.dealloc_token alloc) the_row

-- what is held, as the box has it
abbrev pub held_coded : Coded the_row.Denot
held_coded = the_row.coded

-- what a handle owns that may be zero: a zero one holds nothing, and any other one owns what a handle does
abbrev pub optional_owns : Global → Ptr → Option the_row.Denot → Fml
optional_owns alloc null_ptr None = ftrue
optional_owns alloc (block_ptr b o) (Some x) = handle_owns alloc (block_ptr b o) x
optional_owns alloc _ _ = ffalse

-- what is held, if anything is
abbrev pub optional_coded : Coded (Option the_row.Denot)
optional_coded = coded_option the_row.coded
