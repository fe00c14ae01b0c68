use Rattle.cq_endpoint.proofs.Endings.{none_appended}
use Rattle.cq_endpoint.proofs.laws.nothing_is_appended_to_a_closed_queue.Goals as goal

pub returns : goal.returns
returns c = none_appended
