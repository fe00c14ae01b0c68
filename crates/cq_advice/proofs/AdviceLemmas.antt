-- Where a part is in a text, and which faults have no text.
use Rattle.std.proofs.Common.{◌≡◌, ℕ, List, [], ◌∷◌, ◌++◌, true, nat_eq, map, length, sym, refl, ap, arith, ◌∙◌, ◌+◌}
use Rattle.std.proofs.lemmas.List.{length-append}
use Rattle.std.specs.List.{starts_with}
use Rattle.cq_advice.specs.Advice.{Fault, advice, fault_text, holds, unfolded}

-- a text that begins with the part has it
pub holds-front : (text part : List ℕ) → starts_with nat_eq text part ≡ true → true ≡ holds text part
holds-front [] part begins = sym begins
holds-front (byte ∷ text) part begins = rw begins refl

-- a fault has a text
pub fault-shown : (fault : Fault) (more : List ℕ) → fault_text fault ++ more ≡ [] → ⊥
fault-shown fault more none =
    let back : List ℕ = 10 ∷ 10 ∷ [] in
    let below = length-append (map unfolded fault.below) back in
    let whole = length-append fault.text (map unfolded fault.below ++ back) in
    let all = length-append (fault_text fault) more in
    let zero : length (fault_text fault ++ more) ≡ 0 = ap length none in
    omega arith

-- so have some
pub advice-none : (faults : List Fault) → advice faults ≡ [] → faults ≡ []
advice-none [] none = refl
advice-none (fault ∷ faults) none = absurd (fault-shown fault (advice faults) none)
