-- Names are found where they were put.
use Rattle.std.proofs.Common.{◌≡◌, ℕ, zero, suc, ◌<◌, List, [], ◌∷◌, Bool, true, false, length, map, nat_eq, arith, ap, get_or, refl, subst, sym, ◌∙◌}
use Rattle.std.specs.Prelude.{All, cond, string_bytes}
use Rattle.std.specs.List.{AllByRecursion}
use Rattle.std.proofs.lemmas.Bool.{eqb-true, eqb-false}
use Rattle.std.proofs.lemmas.List.{get_or-map, length-map}
use Rattle.cq_cycle.specs.Name.{IsName}
use Rattle.cq_cycle.specs.declared.roll.Roll.{Roll}
use Rattle.cq_layout.proofs.Each.{each-from_all}
use Rattle.cq_model.specs.declared.contents.CycleList.{CycleList}
use Rattle.cq_forms.specs.declared.names.CycleName.{CycleName}
use Rattle.cq_forms.specs.Names.{AreNames, name_in}

-- the cycle has this name
abbrev pub IsNamed : Roll → ℕ → CycleName → Type 0
IsNamed roll epoch named = IsName roll epoch named.cycle (string_bytes named.name)

-- where the first of these is another cycle, the cycle is among the others
later : (named : CycleName) (names : List CycleName) (k cycle d : ℕ) → k < suc (length names)
    → get_or (map (λ (n : CycleName). n.cycle) (named ∷ names)) k d ≡ cycle → nat_eq named.cycle cycle ≡ false
    → (j : ℕ) × (j < length names) × (get_or (map (λ (n : CycleName). n.cycle) names) j d ≡ cycle)
later named names zero cycle d low is other = absurd (eqb-false named.cycle cycle other is)
later named names (suc k) cycle d low is other = (k, omega (arith, low), is)

-- the first name of a cycle that is among these is one that it has
found : (roll : Roll) (epoch : ℕ) (names : List CycleName) (k cycle d : ℕ) → AllByRecursion (IsNamed roll epoch) names → k < length names
    → get_or (map (λ (named : CycleName). named.cycle) names) k d ≡ cycle → IsName roll epoch cycle (name_in names cycle)
found roll epoch [] k cycle d all low is = absurd (omega (arith, low))
found roll epoch (named ∷ names) k cycle d all low is =
    by (nat_eq named.cycle cycle) refl
    (λ other. let at = later named names k cycle d low is other in found roll epoch names at.0 cycle d all.1 at.1 at.2)
  where
    by : (b : Bool) → nat_eq named.cycle cycle ≡ b → (nat_eq named.cycle cycle ≡ false → IsName roll epoch cycle (name_in names cycle))
        → IsName roll epoch cycle (cond (nat_eq named.cycle cycle) (string_bytes named.name) (name_in names cycle))
    by true same more =
        subst (λ (b : Bool). IsName roll epoch cycle (cond b (string_bytes named.name) (name_in names cycle))) (sym same)
        (subst (λ (c : ℕ). IsName roll epoch c (string_bytes named.name)) (eqb-true named.cycle cycle same) all.0)
    by false other more =
        subst (λ (b : Bool). IsName roll epoch cycle (cond b (string_bytes named.name) (name_in names cycle))) (sym other) (more other)

-- the names of these cycles are found
pub all_found : (roll : Roll) (epoch : ℕ) (names : List CycleName) (lists : List CycleList)
    → map (λ (named : CycleName). named.cycle) names ≡ map (λ (list : CycleList). list.cycle) lists → All (IsNamed roll epoch) names
    → AreNames roll epoch (name_in names) lists
all_found roll epoch names lists same named k list low =
    let long : length names ≡ length lists =
    sym (length-map names (λ (n : CycleName). n.cycle)) ∙ ap length same ∙ length-map lists (λ (l : CycleList). l.cycle) in
    found roll epoch names k (get_or lists k list).cycle (get_or lists k list).cycle (each-from_all (IsNamed roll epoch) names named)
    (subst (λ (n : ℕ). k < n) (sym long) low)
    (ap (λ (cs : List ℕ). get_or cs k (get_or lists k list).cycle) same
    ∙ get_or-map (λ (l : CycleList). l.cycle) lists k list (get_or lists k list).cycle low)
