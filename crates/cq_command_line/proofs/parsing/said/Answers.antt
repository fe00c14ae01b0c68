use Rattle.cq_command_line.proofs.FaultLemmas.{own_kind}
use Rattle.cq_command_line.proofs.parsing.said.Goals as goal

pub returns-in-Ok : goal.returns-in-Ok
returns-in-Ok c = own_kind c.into.result c.in-Ok.error c.into.ensures
