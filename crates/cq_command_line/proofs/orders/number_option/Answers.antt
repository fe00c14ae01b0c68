use Rattle.std.proofs.Common.{sym}
use Rattle.clap.specs.Words.{found_of}
use Rattle.cq_command_line.proofs.OrderLemmas.{no_word_found}
use Rattle.cq_command_line.proofs.orders.number_option.Goals as goal

pub returns-in-None : goal.returns-in-None
returns-in-None c = sym (no_word_found (found_of c.args.values.now) c.args.name.now c.get_str.result c.get_str.ensures c.in-None.is)
