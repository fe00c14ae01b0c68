use Rattle.std.proofs.Common.{◌≡◌, List, ℕ, ap, ap₂, max, sum_by, sym, ◌∙◌}
use Rattle.cq_cycle.specs.Index.{index_of}
use Rattle.cq_model.specs.declared.contents.CycleList.{CycleList}
use Rattle.cq_stat.specs.Facts.{left_in, with_floor}
use Rattle.cq_stat.proofs.LeftLemmas.{left_is}
use Rattle.cq_stat.proofs.names.messages_left.Goals as goal

pub returns : goal.returns
returns c =
    let contents = with_floor c.args.contents.now c.args.floor in
    let floor : c.value-floor.result ≡ index_of c.args.floor 0 = c.value-floor.ensures ∙ c.new.ensures in
    let place : c.max.result ≡ max c.args.position (index_of c.args.floor 0) = c.max.ensures ∙ ap (max c.args.position) floor in
    c.messages_from.ensures ∙ ap₂ (λ (p : ℕ) (lists : List CycleList). sum_by (left_in p) lists) place c.as_slice.ensures
    ∙ sym (left_is contents c.args.position)
