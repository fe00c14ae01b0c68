use Rattle.std.proofs.Common.{◌≡◌, ◌∙◌, ℕ, List, Vec, Global, ap, length, map, sym, subst}
use Rattle.std.proofs.lemmas.List.{length-map}
use Rattle.cq_folder.specs.Folder.{named_file}
use Rattle.cq_folder.specs.declared.storage.NewFile.{NewFile}
use Rattle.cq_repair.specs.Kept.{AreChanges, lowered, positions_after}
use Rattle.cq_repair.proofs.PlanLemmas.{both_change, image_alone, other_list, same_list}
use Rattle.cq_repair.proofs.planning.changes_for.Goals as goal
use Rattle.cq_repair.proofs.planning.changes_for.Goals.{then-ne+in_ok-config_file+in_ok-push-2, else-ne}

pub returns : goal.returns
returns c =
    let found = c.args.found.now in
    let ended = c.args.kept.now.ended in
    let after : c.in_ok-positions.positions.items ≡ positions_after ended found =
    c.in_ok-positions.ensures
    ∙ (ap (λ (positions : List ℕ). map (lowered ended c.args.kept.now.end) positions) c.as_slice.ensures.value
    ∙ ap (λ (end : ℕ). map (lowered ended end) found.saved.positions.items) c.requires.kept.end_is) in
    let positions = c.in_ok-positions.positions.items in
    elim c.if-ne.branch [
      | then-ne+in_ok-config_file+in_ok-push-2 w ↦
          subst (λ (v : Vec NewFile Global). AreChanges c.args.file.now ended found (map named_file v.items)) (sym w.changes-is)
          (both_change c.args.file.now ended found c.new-changes.result.items c.push.new.self.items w.push-then-ne.new.self.items c.in_ok-image_file.field-0
          w.in_ok-config_file.field-0 positions w.as_slice-then-ne.result.now c.new-changes.ensures.items c.in_ok-push.ensures.items w.in_ok-push-2.ensures.items
          c.in_ok-image_file.ensures after
          (λ same. other_list c.as_slice-2.result.now c.as_slice-3.result.now w.if-ne.ensures (c.as_slice-2.ensures.value ∙ (same ∙ sym c.as_slice-3.ensures.value)))
          w.as_slice-then-ne.ensures.value w.in_ok-config_file.ensures)
      | else-ne w ↦
          subst (λ (v : Vec NewFile Global). AreChanges c.args.file.now ended found (map named_file v.items)) (sym w.changes-is)
          (image_alone c.args.file.now ended found c.new-changes.result.items c.push.new.self.items c.in_ok-image_file.field-0 positions
          c.new-changes.ensures.items c.in_ok-push.ensures.items c.in_ok-image_file.ensures after
          (sym c.as_slice-2.ensures.value ∙ (same_list c.as_slice-2.result.now c.as_slice-3.result.now w.if-ne.ensures ∙ c.as_slice-3.ensures.value)))
    ]

pub config_file-requires-clause-paired : goal.config_file-requires-clause-paired
config_file-requires-clause-paired c =
    ap length c.as_slice-then-ne.ensures.value
    ∙ (ap length c.in_ok-positions.ensures
    ∙ (length-map c.as_slice.result.now (lowered c.args.kept.now.ended c.args.kept.now.end)
    ∙ (ap length c.as_slice.ensures.value ∙ c.requires.paired)))
