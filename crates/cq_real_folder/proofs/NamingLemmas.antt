-- Why names are refused.
use Rattle.std.proofs.Common.{◌≡◌, ◌<◌, All, Global, List, String, get_or, inl, inr, length, subst, sym, ℕ}
use Rattle.std.proofs.lemmas.List.Elements.{All-get_or}
use Rattle.std.specs.declared.io.Error.{Error}
use Rattle.cq_folder.specs.declared.storage.NewFile.{NewFile}
use Rattle.cq_real_folder.specs.Record.{AreFileNames, CanBeRecorded, IsFileName, IsNamingError}

-- what one name is refused for, all are
pub one_refused : {X : Type 0} (text : X → List ℕ) (xs : List X) (i : ℕ) (x : X) (name : List ℕ) (P : Type 0) (error : Error)
    → (P → All (λ y. IsFileName (text y)) xs) → i < length xs → x ≡ get_or xs i x → name ≡ text x
    → IsNamingError (¬ IsFileName name) error → IsNamingError (¬ P) error
one_refused text xs i x name P error all below item spelled (inl scarce) = inl scarce
one_refused text xs i x name P error all below item spelled (inr refused) = inr (
  refused.0,
  λ p.
      refused.1 (subst IsFileName (sym spelled) (subst (λ y. IsFileName (text y)) (sym item)
      (All-get_or (λ y. IsFileName (text y)) xs i x below (all p)))),
)

-- what the removed names are refused for, the whole save is
pub removal_refused : (changes : List NewFile) (removed : List (String Global)) (error : Error)
    → IsNamingError (¬ AreFileNames removed) error → IsNamingError (¬ CanBeRecorded changes removed) error
removal_refused changes removed error (inl scarce) = inl scarce
removal_refused changes removed error (inr refused) = inr (refused.0, λ can. refused.1 can.1)
