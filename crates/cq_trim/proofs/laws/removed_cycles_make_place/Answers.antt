use Rattle.cq_trim.proofs.KeptLemmas.{places_made}
use Rattle.cq_trim.proofs.laws.removed_cycles_make_place.Goals as goal

pub returns : goal.returns
returns c contents floor cycles few = places_made contents floor cycles few
