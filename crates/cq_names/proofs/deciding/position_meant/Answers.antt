use Rattle.std.proofs.Common.{ℕ, subst, sym}
use Rattle.cq_cycle.specs.declared.roll.Roll.{Roll}
use Rattle.cq_points.specs.Points.{MeansPoint}
use Rattle.cq_names.proofs.deciding.position_meant.Goals as goal

pub returns-in-Ok-clause-found : goal.returns-in-Ok-clause-found
returns-in-Ok-clause-found c =
    subst (λ (p : ℕ). MeansPoint c.args.config.now.roll c.args.config.now.epoch c.args.word.now p) (sym c.value.ensures)
    (subst (λ (e : ℕ). MeansPoint c.args.config.now.roll e c.args.word.now c.in-Ok.index) c.epoch.ensures.value
    (subst (λ (r : Roll). MeansPoint r c.epoch.result c.args.word.now c.in-Ok.index) c.roll.ensures.value c.in-Ok.ensures.found))
