-- Lists that are made by a loop, and have one more item after each step.
use Rattle.std.proofs.Common.{◌≡◌, ◌+◌, ◌<◌, ◌++◌, ◌∷◌, [], List, ap, ap₂, get_or, length, map, subst, sym, take, ℕ, ◌∙◌}
use Rattle.std.proofs.lemmas.List.{map-append, map_more, take_more}
use Rattle.std.proofs.lemmas.List.Elements.{All-append}
use Rattle.std.specs.Prelude.{All}
use Rattle.cq_layout.proofs.Each.{each-all}

-- a field of the items is a list of its own
pub one_more : {X Y : Type 0} (f : X → Y) (xs more : List X) (x : X) (ys : List Y) (i : ℕ) (d : Y) → more ≡ xs ++ x ∷ [] → map f xs ≡ take i ys
    → i < length ys → f x ≡ get_or ys i d → map f more ≡ take (i + 1) ys
one_more f xs more x ys i d is said low at =
    ap (map f) is ∙ map-append f xs (x ∷ []) ∙ ap₂ (λ a b. a ++ b ∷ []) said at ∙ sym (take_more ys i d low)

-- a field of the items is a function of another list
pub one_more_of : {X Y Z : Type 0} (f : X → Z) (g : Y → Z) (xs more : List X) (x : X) (ys : List Y) (i : ℕ) (d : Y) → more ≡ xs ++ x ∷ []
    → map f xs ≡ map g (take i ys) → i < length ys → f x ≡ g (get_or ys i d) → map f more ≡ map g (take (i + 1) ys)
one_more_of f g xs more x ys i d is said low at =
    ap (map f) is ∙ map-append f xs (x ∷ []) ∙ ap₂ (λ a b. a ++ b ∷ []) said at ∙ sym (map_more g ys i d low)

-- something holds of each item
pub all_more : {X : Type 0} (P : X → Type 0) (xs more : List X) (x : X) → more ≡ xs ++ x ∷ [] → All P xs → P x → All P more
all_more P xs more x is all holds = subst (All P) (sym is) (All-append P xs (x ∷ []) all (each-all P (x ∷ []) (holds, tt)))
