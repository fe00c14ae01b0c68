use Rattle.std.proofs.Common.{ap, map, ◌∙◌}
use Rattle.std.proofs.lemmas.List.{take_all}
use Rattle.cq_model.specs.declared.contents.CycleList.{CycleList}
use Rattle.cq_forms.proofs.NameLemmas.{all_found}
use Rattle.cq_forms.proofs.names.cycle_names.Goals as goal

pub returns : goal.returns
returns c =
    all_found c.args.roll c.args.epoch c.loop-list.names.items c.args.lists.now
    (c.loop-list.invariant.cycles
    ∙ ap (map (λ (list : CycleList). list.cycle)) (take_all c.loop-list.list-index c.args.lists.now c.loop-list-test.false))
    c.loop-list.invariant.named
