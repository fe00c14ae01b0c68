use Rattle.cq_repair.proofs.OpenLemmas.{can_be_opened}
use Rattle.cq_repair.proofs.laws.a_repaired_folder_can_be_opened.Goals as goal

pub returns : goal.returns
returns c =
    λ file text before after queue left done but is.
    let paired = c.names_and_cycles_are_paired.ensures in
    can_be_opened paired.one_name paired.one_cycle file text before after queue done but left is
