use Rattle.std.proofs.Common.{◌≡◌, ◌<◌, ◌≤◌, List, ap, get_or, length, map, string_bytes, subst, sym, take_all, ℕ, ◌∙◌}
use Rattle.cq_cycle.specs.Name.{IsName}
use Rattle.cq_cycle.specs.declared.roll.Roll.{Roll}
use Rattle.cq_model.specs.States.{last_cycle}
use Rattle.cq_model.specs.declared.contents.CycleList.{CycleList}
use Rattle.cq_stat.specs.Facts.{IsNamed, facts_of, facts_with, state_of}
use Rattle.cq_stat.specs.declared.facts.CycleFacts.{CycleFacts}
use Rattle.cq_stat.specs.declared.facts.CycleStat.{CycleStat}
use Rattle.cq_stat.specs.declared.facts.CycleState.{CycleState}
use Rattle.cq_stat.proofs.StepLemmas.{all_more, one_more_of}
use Rattle.cq_stat.proofs.cycles.cycle_stats.Goals as goal

pub loop-list-preserved : goal.loop-list-preserved
loop-list-preserved c =
    let settings = c.args.config.now in
    let contents = c.args.contents.now in
    let i = c.loop-list.list-index in
    let l = c.list-item.result in
    let same : c.as_slice-lists.result.now ≡ contents.lists = c.as_slice-lists.ensures in
    let low : i < length contents.lists = subst (λ (lists : List CycleList). i < length lists) same c.loop-list-test.true in
    let at : l ≡ get_or contents.lists i l = c.list-item.is ∙ ap (λ (lists : List CycleList). get_or lists i l) same in
    let last = ap last_cycle same in
    let state : c.state_of.result ≡ state_of contents.floor (last_cycle contents.lists) l.cycle =
    c.state_of.ensures ∙ ap (λ (last : ℕ). state_of contents.floor last l.cycle) (c.last_cycle-last.ensures ∙ last) in
    let told = c.in_ok-facts.ensures ∙ ap (λ (state : CycleState). facts_with settings l state) state in
    let name = string_bytes c.in_ok-name.name in
    let rolled = subst (λ (roll : Roll). IsName roll c.epoch.result l.cycle name) c.roll.ensures.value c.in_ok-name.ensures in
    let named = subst (λ (epoch : ℕ). IsName settings.roll epoch l.cycle name) c.epoch.ensures.value rolled in
    record {
      facts = one_more_of (λ (cycle : CycleStat). cycle.facts) (λ (list : CycleList). facts_of settings contents list) c.loop-list.cycles.items
          c.push.new.self.items _ contents.lists i l c.in_ok-push.ensures.items c.loop-list.invariant.facts low
          (told ∙ ap (λ (list : CycleList). facts_of settings contents list) at);
      named = all_more (IsNamed settings) c.loop-list.cycles.items c.push.new.self.items _ c.in_ok-push.ensures.items c.loop-list.invariant.named
          (subst (λ (number : ℕ). IsName settings.roll settings.epoch number name) (sym (ap (λ (facts : CycleFacts). facts.number) told)) named);
    }

pub returns-clause-facts : goal.returns-clause-facts
returns-clause-facts c =
    let settings = c.args.config.now in
    let contents = c.args.contents.now in
    let low : length contents.lists ≤ c.loop-list.list-index =
    subst (λ (lists : List CycleList). length lists ≤ c.loop-list.list-index) c.as_slice-lists.ensures c.loop-list-test.false in
    subst (λ (lists : List CycleList). map (λ (cycle : CycleStat). cycle.facts) c.loop-list.cycles.items ≡ map (facts_of settings contents) lists)
    (take_all c.loop-list.list-index contents.lists low) c.loop-list.invariant.facts
