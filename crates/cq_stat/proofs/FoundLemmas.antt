-- The first message at or after a place, cycle by cycle.
use Rattle.std.proofs.Common.{◌≡◌, ℕ, zero, suc, ◌-◌, ◌<◌, ◌≤◌, max, List, [], ◌∷◌, length, arith, refl, ap, sym, ◌∙◌}
use Rattle.std.specs.Prelude.{Option, Some, option_map, slice_get}
use Rattle.cq_cycle.specs.Index.{index_of}
use Rattle.cq_model.specs.Finds.{Placed, first_in, first_or}
use Rattle.cq_model.specs.declared.contents.CycleList.{CycleList}
use Rattle.cq_model.proofs.FindLemmas.{missing}
use Rattle.cq_stat.specs.Facts.{left_in}

-- a message has this place, if the list is long enough
there : (ms : List (List ℕ)) (k : ℕ) → k < length ms → (m : List ℕ) × (slice_get ms k ≡ Some m)
there [] k low = absurd (omega (arith, low))
there (m ∷ ms) zero low = (m, refl)
there (m ∷ ms) (suc k) low = there ms k (omega (arith, low))

-- the first message is in the first of these cycles
pub found_here : (l : CycleList) (ls all : List CycleList) (p : ℕ) → 0 < left_in p l → first_in (l ∷ ls) p ≡ first_in all p
    → Some (max p (index_of l.cycle 0)) ≡ option_map (λ found. found.0) (first_in all p)
found_here l ls all p some same =
    let k : ℕ = p - index_of l.cycle 0 in
    let at = there l.messages k (omega (arith, some)) in
    ap (λ (o : Option (List ℕ)). option_map (λ (f : Placed). f.0) (first_or l p o (first_in ls p))) (sym at.1)
    ∙ ap (λ (o : Option Placed). option_map (λ (f : Placed). f.0) o) same

-- it is in none of them but the later ones
pub found_later : (l : CycleList) (ls all : List CycleList) (p : ℕ) → left_in p l ≤ 0 → first_in (l ∷ ls) p ≡ first_in all p
    → first_in ls p ≡ first_in all p
found_later l ls all p none same =
    let k : ℕ = p - index_of l.cycle 0 in
    sym (ap (λ (o : Option (List ℕ)). first_or l p o (first_in ls p)) (missing l.messages k (omega (arith, none)))) ∙ same
