use Rattle.std.proofs.Common.{List, ℕ, ap, subst, sym}
use Rattle.std.specs.Prelude.{IfOk, Option, option_map, string_bytes}
use Rattle.cq_trim.specs.Floors.{IsBefore}
use Rattle.cq_trim.specs.Words.{MeansCycle}
use Rattle.cq_trim.proofs.floors.cycle_before.Goals as goal

pub returns-in-Some-clause-found : goal.returns-in-Some-clause-found
returns-in-Some-clause-found c =
    let config = c.args.config.now in
    subst (λ (word : Option (List ℕ)). IfOk c.cycle_meant.result (IsBefore config word)) (sym (ap (option_map string_bytes) c.in-Some.is))
    (subst (λ (word : List ℕ). IfOk c.cycle_meant.result (MeansCycle config word)) c.as_str.ensures.value c.cycle_meant.ensures.found)
