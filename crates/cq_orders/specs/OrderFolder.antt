-- The folder of an order, and which orders are plain.
use Rattle.std.specs.Prelude.{⊤, ℕ, List, Option, None, Some, string_bytes}
use Rattle.cq_orders.specs.declared.order.Order.{Order}
use Rattle.cq_orders.specs.declared.order.Order.TheVariants.{Echo, Cycle, Init, Write, WriteBy, Log, Read, Follow, Take, TakeBy, Check, Stat, Dump, Salvage, Race, DropBefore, Trim, Migrate, Names, New, Repair, Explain}

-- the path of the folder that an order is for
abbrev pub folder_of : Order → Option (List ℕ)
folder_of Echo = None
folder_of (Cycle roll epoch moment) = None
folder_of (Init folder settings) = Some (string_bytes folder)
folder_of (Write folder moment) = Some (string_bytes folder)
folder_of (WriteBy folder settings) = Some (string_bytes folder)
folder_of (Log folder settings) = Some (string_bytes folder)
folder_of (Read folder settings) = Some (string_bytes folder)
folder_of (Follow folder settings seconds) = Some (string_bytes folder)
folder_of (Take folder name) = Some (string_bytes folder)
folder_of (TakeBy folder name settings) = Some (string_bytes folder)
folder_of (DropBefore folder cycle) = Some (string_bytes folder)
folder_of (Trim folder settings) = Some (string_bytes folder)
folder_of (Check folder) = Some (string_bytes folder)
folder_of (Stat folder json) = Some (string_bytes folder)
folder_of (Dump folder file) = Some (string_bytes folder)
folder_of (Salvage folder file) = Some (string_bytes folder)
folder_of (Migrate folder) = Some (string_bytes folder)
folder_of (Race messages) = None
folder_of (Names folder change) = Some (string_bytes folder)
folder_of (New folder settings) = Some (string_bytes folder)
folder_of (Repair folder file dry_run) = Some (string_bytes folder)
folder_of (Explain words) = None

-- the order is for one caller and one call, and is done by `run` of `cq_running`
abbrev pub IsPlain : Order → Type 0
IsPlain (WriteBy folder settings) = ⊥
IsPlain (Log folder settings) = ⊥
IsPlain (Follow folder settings seconds) = ⊥
IsPlain (TakeBy folder name settings) = ⊥
IsPlain (Trim folder settings) = ⊥
IsPlain (Race messages) = ⊥
IsPlain (Names folder change) = ⊥
IsPlain (New folder settings) = ⊥
IsPlain (Repair folder file dry_run) = ⊥
IsPlain (Explain words) = ⊥
IsPlain order = ⊤
