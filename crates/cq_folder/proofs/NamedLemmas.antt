-- Names that a folder lists, and the files that it has.
use Rattle.std.proofs.Common.{◌≡◌, ◌∙◌, ◌∷◌, [], Bool, Global, List, ap, arith, length, refl, suc, sym, zero, ℕ}
use Rattle.std.specs.Prelude.{◌||◌, Contains, IfSome, IsSome, None, Option, Some, String, false, string_bytes, true}
use Rattle.std.specs.Str.{bytes_eq}
use Rattle.std.proofs.lemmas.Bool.{both_ways, false≢true}
use Rattle.std.proofs.lemmas.Slice.Eq.{bytes_eq-Decides}
use Rattle.cq_model.specs.Settings.{texts}
use Rattle.cq_folder.specs.Folder.{Files, ListsFiles, is_named}

-- a name is one of these where the test says so, and it says so of each of them
pub named : (names : List (String Global)) (name : List ℕ) → is_named names name ≡ true → Contains (texts names) name
named [] name is = absurd (false≢true is)
named (first ∷ names) name is =
    here (bytes_eq (string_bytes first) name) refl (λ other. named names name (ap (λ (b : Bool). b || is_named names name) (sym other) ∙ is))
  where
    here : (b : Bool) → bytes_eq (string_bytes first) name ≡ b
        → (bytes_eq (string_bytes first) name ≡ false → Contains (texts names) name) → Contains (texts (first ∷ names)) name
    here true same later = (0, omega arith, (bytes_eq-Decides (string_bytes first) name).0 same)
    here false other later =
        let has = later other in
        let low = has.1 in
        (suc has.0, omega arith, has.2)

or-true : (b : Bool) → (b || true) ≡ true
or-true true = refl
or-true false = refl

pub contained : (names : List (String Global)) (name : List ℕ) → Contains (texts names) name → is_named names name ≡ true
contained [] name has = let low = has.1 in absurd (omega arith)
contained (first ∷ names) name (zero, low, same) =
    ap (λ (b : Bool). b || is_named names name) ((bytes_eq-Decides (string_bytes first) name).1 same)
contained (first ∷ names) name (suc k, low, same) =
    ap (λ (b : Bool). bytes_eq (string_bytes first) name || b) (contained names name (k, omega arith, same))
    ∙ or-true (bytes_eq (string_bytes first) name)

pub unnamed : (names : List (String Global)) (name : List ℕ) → is_named names name ≡ false → Contains (texts names) name → ⊥
unnamed names name none has = both_ways (is_named names name) none (contained names name has)

-- a folder has the file whose name was listed, and no other
pub file_named : (files : Option Files) (names : List (String Global)) (name : List ℕ) → IfSome files (ListsFiles (texts names))
    → is_named names name ≡ true → IfSome files (λ held. IsSome (held name))
file_named None names name listed is = tt
file_named (Some files) names name listed is = listed.held name (named names name is)

pub file_unnamed : (files : Option Files) (names : List (String Global)) (name : List ℕ) → IfSome files (ListsFiles (texts names))
    → is_named names name ≡ false → IfSome files (λ held. ¬ IsSome (held name))
file_unnamed None names name listed none = tt
file_unnamed (Some files) names name listed none = λ some. unnamed names name none (listed.whole name some)
