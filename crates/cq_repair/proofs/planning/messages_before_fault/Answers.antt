use Rattle.std.proofs.Common.{suc, length, refl, rules}
use Rattle.cq_image.specs.Reading.{opening, walk_of}
use Rattle.cq_image.specs.Salvage.{salvage_of}
use Rattle.cq_image.proofs.ReadLemmas.{AreBytes-from, accepted}
use Rattle.cq_repair.proofs.PlanLemmas.{before_fault}
use Rattle.cq_repair.proofs.planning.messages_before_fault.Goals as goal

pub returns : goal.returns
returns c =
    let layout = c.args.layout in
    let bytes = c.args.bytes.now in
    let next = accepted layout c.args.cycle bytes (walk_of layout c.args.cycle (suc (length bytes)) opening bytes)
    (AreBytes-from bytes (λ i. (c.type_inv.bytes i).fits)) refl in
    before_fault layout c.in_ok-messages.field-0 (salvage_of layout c.args.cycle bytes) c.in_ok-copied.field-0 c.in_ok-messages.ensures
    (search rules) (search rules) next
