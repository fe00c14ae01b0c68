use Rattle.std.proofs.Common.{◌≡◌, false, true}
use Rattle.cq_repair.proofs.finding.is_later.Goals as goal

clash : false ≡ true → ⊥
clash is = cc

pub returns-in-None : goal.returns-in-None
returns-in-None c = (
  λ is. absurd (clash is),
  λ later.
      let found = c.cycle_of_file.ensures.only later.0 later.1 in
      let none = c.in-None.is in
      cc,
)
