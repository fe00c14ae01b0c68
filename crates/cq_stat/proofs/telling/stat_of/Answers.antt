use Rattle.std.proofs.Common.{◌≤◌, [], arith, ap, inl, inr, length, subst, sym, ◌∙◌}
use Rattle.std.specs.Prelude.{All, string_bytes}
use Rattle.std.proofs.lemmas.List.{length-map}
use Rattle.cq_files.specs.Queue.{CanBeOpened}
use Rattle.cq_layout.specs.Layout.{IsLawfulLayout}
use Rattle.cq_layout.specs.declared.shape.TheConstants.{MAX_MESSAGES}
use Rattle.cq_layout.proofs.Each.{each-all}
use Rattle.cq_model.proofs.Sound.{message_limit-le}
use Rattle.cq_model.specs.Settings.{Settings}
use Rattle.cq_model.specs.States.{IsHeld}
use Rattle.cq_model.specs.declared.contents.Contents.{Contents}
use Rattle.cq_model.specs.declared.contents.CycleList.{CycleList}
use Rattle.cq_stat.proofs.telling.stat_of.Goals as goal

-- each cycle of a queue that can be opened is one that it can hold
all_held : (settings : Settings) (contents : Contents) → CanBeOpened settings contents → All (λ (list : CycleList). IsHeld settings list) contents.lists
all_held settings contents (inl new) = subst (All (λ (list : CycleList). IsHeld settings list)) (sym new.0) (each-all _ [] tt)
all_held settings contents (inr lawful) = each-all (λ (list : CycleList). IsHeld settings list) contents.lists lawful.held

-- and has no more messages than a cycle can have
few : (settings : Settings) (contents : Contents) → IsLawfulLayout settings.layout → All (λ (list : CycleList). IsHeld settings list) contents.lists
    → All (λ (list : CycleList). length list.messages ≤ MAX_MESSAGES) contents.lists
few settings contents lawful held = λ k d below.
    let entries = (held k d below).entries in
    omega (arith, entries, message_limit-le settings.layout lawful)

pub cycle_stats-requires : goal.cycle_stats-requires
cycle_stats-requires c = all_held c.args.config c.args.contents.now c.requires.openable

pub name_stats-requires-clause-paired : goal.name_stats-requires-clause-paired
name_stats-requires-clause-paired c =
    c.requires.paired ∙ (sym (ap length c.names.ensures.value) ∙ length-map c.names.result.now string_bytes)

pub name_stats-requires-clause-few : goal.name_stats-requires-clause-few
name_stats-requires-clause-few c =
    few c.args.config c.args.contents.now c.names.ensures.lawful.layout (all_held c.args.config c.args.contents.now c.requires.openable)
