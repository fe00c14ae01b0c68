use Rattle.std.proofs.Common.{◌≡◌, ℕ, ◌∙◌, ◌≤◌, false, true, length, arith, refl, subst, sym, take_all, string_bytes, List, Global}
use Rattle.std.specs.Prelude.{String}
use Rattle.std.specs.List.{AllByRecursion}
use Rattle.cq_repair.specs.Found.{IsLater}
use Rattle.cq_repair.proofs.FindLemmas.{all_more, none_of, texts_contain}
use Rattle.cq_repair.proofs.finding.has_later.Goals as goal

clash : false ≡ true → ⊥
clash is = cc

pub returns : goal.returns
returns c =
    let names = c.args.names.now in
    let low : length names ≤ c.loop-name.name-index = omega arith in
    let all = subst (λ (some : List (String Global)). AllByRecursion (λ name. ¬ IsLater c.args.config.now c.args.cycle (string_bytes name)) some)
    (take_all c.loop-name.name-index names low) c.loop-name.invariant in (
      λ is. absurd (clash is),
      λ has. absurd (none_of (IsLater c.args.config.now c.args.cycle) names all has.0 has.1 has.2),
    )

pub returns-then-is_later : goal.returns-then-is_later
returns-then-is_later c =
    let later : IsLater c.args.config.now c.args.cycle c.as_str.result.now = c.is_later.ensures.0 c.if-is_later.true in (
      λ is. (
        string_bytes c.name-item.result,
        texts_contain c.args.names.now c.loop-name.name-index c.name-item.result c.loop-name-test.true c.name-item.is,
        subst (IsLater c.args.config.now c.args.cycle) c.as_str.ensures.value later,
      ),
      λ has. refl,
    )

pub loop-name-preserved : goal.loop-name-preserved
loop-name-preserved c =
    let not_later : ¬ IsLater c.args.config.now c.args.cycle (string_bytes c.name-item.result) =
    subst (λ (name : List ℕ). ¬ IsLater c.args.config.now c.args.cycle name) c.as_str.ensures.value
    (λ later. clash (sym c.if-is_later.false ∙ c.is_later.ensures.1 later)) in
    all_more (λ (name : String Global). ¬ IsLater c.args.config.now c.args.cycle (string_bytes name)) c.args.names.now c.loop-name.name-index c.name-item.result
    c.loop-name-test.true c.loop-name.invariant
    (subst (λ (name : String Global). ¬ IsLater c.args.config.now c.args.cycle (string_bytes name)) c.name-item.is not_later)
