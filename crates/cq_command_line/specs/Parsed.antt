-- What the words of a command line come to.
use Rattle.std.specs.Prelude.{◌≡◌, List, ℕ, [], ◌∷◌, IfErr, IfOk, IfSome, MatchResult, Result, Some, codes, option_map}
use Rattle.clap.specs.Words.{Text, subcommand_of}
use Rattle.cq_orders.specs.declared.order.Order.{Order}
use Rattle.cq_orders.specs.declared.order.Order.TheVariants.{Echo}
use Rattle.cq_command_line.specs.CommandLine.{command_line, word_of}
use Rattle.cq_command_line.specs.Faults.{HasOwnKind}
use Rattle.cq_command_line.specs.OrderValues.{TakesValues}
use Rattle.cq_command_line.specs.declared.parsing.ParseFault.{ParseFault}
use Rattle.cq_command_line.specs.declared.parsing.ParseFault.TheVariants.{OutOfMemory}

-- The words come to the order that they name, with the values that they give it, or to a fault with an error of its kind. Those of
-- `echo` come to that order, unless out of memory.
pub record ParsesTo (words : List Text) (result : Result Order ParseFault) : Type 0 where
  pub named : IfOk result (λ order. option_map (λ met. met.0) (subcommand_of command_line words) ≡ Some (word_of order))
  pub values : IfOk result (λ order. IfSome (subcommand_of command_line words) (λ met. TakesValues met.1 order))
  pub kind : IfErr result HasOwnKind
  pub echo : (program : List ℕ) → words ≡ program ∷ codes "echo" ∷ [] → MatchResult result (λ order. order ≡ Echo) (λ fault. fault ≡ OutOfMemory)
