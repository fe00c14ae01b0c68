use Rattle.std.proofs.Common.{rules}
use Rattle.cq_command_line.proofs.orders.read_settings.Goals as goal

pub returns : goal.returns
returns c = search rules
