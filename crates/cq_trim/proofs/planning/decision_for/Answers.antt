use Rattle.std.proofs.Common.{◌≤◌, ℕ, Global, subst, sym}
use Rattle.std.specs.Prelude.{Option, String, option_map, string_bytes}
use Rattle.cq_cycle.specs.declared.roll.TheConstants.{LAST_CYCLE}
use Rattle.cq_trim.proofs.PlanLemmas.{floor_low}
use Rattle.cq_trim.specs.Plans.{IsNameAtLoss}
use Rattle.cq_trim.proofs.planning.decision_for.Goals as goal

pub plan_for-requires-clause-low : goal.plan_for-requires-clause-low
plan_for-requires-clause-low c =
    subst (λ (n : ℕ). n ≤ LAST_CYCLE) (sym c.in_ok-floor.ensures.floor.floor_is) (floor_low c.args.queue.config c.args.queue.contents _ c.requires.openable)

pub returns-in_ok-plan_for-in-None-clause-decides : goal.returns-in_ok-plan_for-in-None-clause-decides
returns-in_ok-plan_for-in-None-clause-decides c = record {
  floor = c.in_ok-floor.floor;
  floor_is = c.in_ok-floor.ensures.floor;
  decided = record {
    unless_forced = subst
        (λ (name : Option (String Global)). IsNameAtLoss c.args.settings.now.force c.args.queue.config c.args.queue.contents c.in_ok-floor.floor (option_map string_bytes name))
        c.in-None.is c.in_ok-name.ensures;
    plan_is = c.in_ok-plan_for-in-None.ensures;
  };
}
