use Rattle.std.proofs.Common.{refl, sym}
use Rattle.clap.specs.Words.{found_of}
use Rattle.cq_command_line.proofs.OrderLemmas.{word_found}
use Rattle.cq_command_line.proofs.orders.given.Goals as goal

pub returns-in-Some : goal.returns-in-Some
returns-in-Some c =
    sym (word_found (found_of c.args.values.now) c.args.name.now c.get_str.result c.in-Some.text _ c.get_str.ensures c.in-Some.is refl)
