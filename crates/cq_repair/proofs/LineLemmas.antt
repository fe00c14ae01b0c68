-- The lines of the names that move.
use Rattle.std.proofs.Common.{◌≡◌, ◌⊎◌, ◌∙◌, ◌++◌, ℕ, List, [], ◌∷◌, Bool, sym, inl, inr}
use Rattle.std.proofs.lemmas.List.{append-nil}
use Rattle.std.specs.Prelude.{String}
use Rattle.cq_model.specs.Settings.{texts}
use Rattle.cq_repair.specs.Kept.{name_lines}

-- where no name is left, nothing is left to write
pub all_written : {A : Type 0} (dry ended : Bool) (end : ℕ) (names : List (String A)) (positions written whole : List ℕ)
    → written ++ name_lines dry ended end (texts names) positions ≡ whole → (names ≡ []) ⊎ (positions ≡ []) → written ≡ whole
all_written dry ended end [] positions written whole is over = sym (append-nil written) ∙ is
all_written dry ended end (name ∷ names) [] written whole is over = sym (append-nil written) ∙ is
all_written dry ended end (name ∷ names) (position ∷ positions) written whole is (inl clash) = absurd (cc)
all_written dry ended end (name ∷ names) (position ∷ positions) written whole is (inr clash) = absurd (cc)
