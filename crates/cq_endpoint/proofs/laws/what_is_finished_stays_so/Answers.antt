use Rattle.cq_endpoint.proofs.Endings.{stays_finished}
use Rattle.cq_endpoint.proofs.laws.what_is_finished_stays_so.Goals as goal

pub returns : goal.returns
returns c = stays_finished
