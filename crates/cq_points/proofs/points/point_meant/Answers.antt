use Rattle.std.proofs.Common.{ap, ℕ, ◌∙◌}
use Rattle.cq_cycle.specs.Index.{index_of}
use Rattle.cq_text.proofs.FaultLemmas.{passed_on}
use Rattle.cq_points.specs.Points.{of_moment, of_name}
use Rattle.cq_points.proofs.PointLemmas.{means_none}
use Rattle.cq_points.proofs.points.point_meant.Goals as goal

pub returns-in_ok-cycle_at-in-None-Some-clause-found : goal.returns-in_ok-cycle_at-in-None-Some-clause-found
returns-in_ok-cycle_at-in-None-Some-clause-found c =
    let at = c.in_ok-cycle_at-in-None-Some.ensures in
    of_moment c.in-None-Some.moment c.in-None-Some.ensures'.found at.0
    (c.new.ensures ∙ ap (λ (cycle : ℕ). index_of cycle 0) at.1)

pub returns-in_ok-cycle_with_name-in-None-None-clause-found : goal.returns-in_ok-cycle_with_name-in-None-None-clause-found
returns-in_ok-cycle_with_name-in-None-None-clause-found c =
    let named = c.in_ok-cycle_with_name-in-None-None.ensures in
    of_name c.in_ok-cycle_with_name-in-None-None.field-0 named.0 named.1 c.new-in-None-None.ensures

pub returns-in_err-cycle_with_name-in-None-None-clause-fault : goal.returns-in_err-cycle_with_name-in-None-None-clause-fault
returns-in_err-cycle_with_name-in-None-None-clause-fault c =
    let unnamed = c.in_err-cycle_with_name-in-None-None.ensures in
    passed_on _ _ _ c.from_residual-in_err-cycle_with_name-in-None-None.ensures.1
    (means_none c.args.roll c.args.epoch c.args.word.now _ c.in-None-None.ensures.only c.in-None-None.ensures'.only unnamed.0 unnamed.1)
