-- What the words of a start come to.
use Rattle.std.specs.Prelude.{◌≡◌, ℕ, MatchResult, Result, Ok, Err, String, Vec, map, string_bytes}
use Rattle.std.specs.declared.alloc.Global.{Global}
use Rattle.std.specs.IoError.{error_kind}
use Rattle.std.specs.declared.io.Error.{Error}
use Rattle.std.specs.declared.io.ErrorKind.TheVariants.{InvalidData}
use Rattle.cq_command_line.specs.Parsed.{ParsesTo}
use Rattle.cq_command_line.specs.declared.parsing.ParseFault.TheVariants as parse
use Rattle.cq_orders.specs.declared.order.Order.{Order}
use Rattle.cq_orders.specs.declared.order.Order.TheVariants.{Log, Race}
use Rattle.cq_program.specs.Statuses.{IsStatus, IsStatusFor}
use Rattle.cq_program.specs.declared.starting.TheConstants.{FAULT}
use Rattle.cq_program.specs.declared.starting.Unread.{Unread}
use Rattle.cq_program.specs.declared.starting.Unread.TheVariants.{NoText, NoOrder}

-- the words of a start, which the system may not hand out, are read as an order, or are none for this reason
abbrev pub ReadsAs : Result (Vec (String Global) Global) Error → Result Order Unread → Type 0
ReadsAs (Ok words) (Ok order) = ParsesTo (map string_bytes words.items) (Ok order)
ReadsAs (Ok words) (Err (NoOrder fault)) = ParsesTo (map string_bytes words.items) (Err fault)
ReadsAs (Ok words) (Err NoText) = ⊥
ReadsAs (Err error) (Ok order) = ⊥
ReadsAs (Err error) (Err NoText) = error_kind error ≡ InvalidData
ReadsAs (Err error) (Err (NoOrder fault)) = fault ≡ parse.OutOfMemory

-- a start has an order in its words, or ends with the status for why there is none
abbrev pub HasOrder : Result (Vec (String Global) Global) Error → Result Order ℕ → Type 0
HasOrder words (Ok order) = ReadsAs words (Ok order)
HasOrder words (Err status) = (unread : Unread) × ReadsAs words (Err unread) × IsStatusFor unread status

-- a start ends with the status for why there is no order in its words, or with one that this order may end with
abbrev pub EndsFor : (Order → ℕ → Type 0) → Result (Vec (String Global) Global) Error → ℕ → Type 0
EndsFor ends words status =
    (read : Result Order ℕ) × HasOrder words read × MatchResult read (λ order. ends order status) (λ said. status ≡ said)

-- the basic program fails for an order that it lacks
abbrev pub EndsBasic : Order → ℕ → Type 0
EndsBasic (Log folder settings) status = status ≡ FAULT
EndsBasic (Race messages) status = status ≡ FAULT
EndsBasic order status = IsStatus status
