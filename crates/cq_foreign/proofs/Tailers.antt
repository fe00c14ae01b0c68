-- Names that a queue declares.
use Rattle.std.proofs.Common.{◌≡◌, ◌<◌, ◌^◌, ℕ, List, [], Some, String, ap, arith, length, get_or, slice_get, string_bytes, subst, sym, ◌∙◌}
use Rattle.std.specs.Prelude.{All, option_map}
use Rattle.std.proofs.lemmas.Option.{get_or_from_slice_get, slice_get-get_or, slice_get-map, slice_get_within}
use Rattle.cq_model.specs.Settings.{IsTailerName, texts}

-- the bytes of a name are where the name is
pub named : {A : Type 0} → (xs : List (String A)) (names : List (List ℕ)) (k : ℕ) (x : String A) → texts xs ≡ names
    → k < length xs → x ≡ get_or xs k x → slice_get names k ≡ Some (string_bytes x)
named xs names k x same within is =
    subst (λ (ns : List (List ℕ)). slice_get ns k ≡ Some (string_bytes x)) same
    (slice_get-map string_bytes xs k ∙ ap (option_map string_bytes) (slice_get-get_or xs k x within ∙ ap Some (sym is)))

-- a name is short
pub short : (names : List (List ℕ)) (k : ℕ) (name : List ℕ) → All IsTailerName names → slice_get names k ≡ Some name
    → length name < 2 ^ 32
short names k name each at =
    let is : IsTailerName name
    = subst IsTailerName (get_or_from_slice_get names k name [] at) (each k [] (slice_get_within names k name at)) in
    let few = is.few in
    omega (arith, few)
