use Rattle.cq_saved.proofs.Snapshots.{given_images, given_of, given_opens}
use Rattle.cq_saved.proofs.laws.a_snapshot_can_be_opened.Goals as goal

pub returns : goal.returns
returns c = record {
  images = λ queue old new ls answered. given_images queue ls (given_of queue old new ls answered);
  lawful = λ queue old new ls answered. given_opens queue ls (given_of queue old new ls answered);
}
