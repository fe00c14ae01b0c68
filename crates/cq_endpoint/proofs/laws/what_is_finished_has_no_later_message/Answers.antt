use Rattle.cq_endpoint.proofs.Endings.{finished}
use Rattle.cq_endpoint.proofs.laws.what_is_finished_has_no_later_message.Goals as goal

pub returns : goal.returns
returns c = finished
