use Rattle.std.proofs.Common.{ℕ, subst}
use Rattle.cq_cycle.specs.declared.roll.Roll.{Roll}
use Rattle.cq_points.specs.Points.{MeansPoint}
use Rattle.cq_trim.proofs.words.cycle_meant.Goals as goal

pub returns-clause-found : goal.returns-clause-found
returns-clause-found c =
    let point = c.in_ok-point.point in
    let config = c.args.config.now in
    record {
      point = point;
      means = subst (λ (roll : Roll). MeansPoint roll config.epoch c.args.word.now point) c.roll.ensures.value
          (subst (λ (epoch : ℕ). MeansPoint c.roll.result epoch c.args.word.now point) c.epoch.ensures.value c.in_ok-point.ensures.found);
      cycle_is = c.cycle.ensures;
    }
