-- What a folder lists once a save is done, name by name.
use Rattle.std.proofs.Common.{◌≡◌, ◌∙◌, ◌+◌, ◌++◌, ◌∷◌, ◌<◌, ◌≤◌, [], Bool, Global, List, String, ap, cond, false, get_or, length, map, refl, string_bytes, sym, take, true, ℕ}
use Rattle.std.specs.Prelude.{◌||◌, if◌then◌else◌, not}
use Rattle.std.specs.List.{filter}
use Rattle.std.specs.Str.{bytes_eq}
use Rattle.std.proofs.lemmas.List.{map_push, take_all, take_more}
use Rattle.cq_folder.specs.Folder.{is_named}
use Rattle.cq_real_folder.specs.Record.{is_listed, names_after, with_saved}

named_listed : (names : List (String Global)) (name : List ℕ) → is_listed (map string_bytes names) name ≡ is_named names name
named_listed [] name = refl
named_listed (first ∷ names) name = ap (λ (b : Bool). bytes_eq (string_bytes first) name || b) (named_listed names name)

-- a name that is among them is not added
pub among : (names : List (String Global)) (name : List ℕ) → is_named names name ≡ true
    → map string_bytes names ≡ with_saved (map string_bytes names) (name ∷ [])
among names name is =
    ap (λ (b : Bool). if b then map string_bytes names else map string_bytes names ++ name ∷ []) (sym is ∙ sym (named_listed names name))

-- another is
pub not_among : (names : List (String Global)) (name : List ℕ) (one : String Global) → is_named names name ≡ false
    → string_bytes one ≡ name → map string_bytes (names ++ one ∷ []) ≡ with_saved (map string_bytes names) (name ∷ [])
not_among names name one none is =
    map_push string_bytes names one ∙ ap (λ (bytes : List ℕ). map string_bytes names ++ bytes ∷ []) is
    ∙ ap (λ (b : Bool). if b then map string_bytes names else map string_bytes names ++ name ∷ []) (sym none ∙ sym (named_listed names name))

one_more : (names saved : List (List ℕ)) (name : List ℕ)
    → with_saved names (saved ++ name ∷ []) ≡ with_saved (with_saved names saved) (name ∷ [])
one_more names [] name = refl
one_more names (first ∷ saved) name = one_more (if is_listed names first then names else names ++ first ∷ []) saved name

filter_texts : (removed names : List (String Global))
    → map string_bytes (filter (λ name. not (is_named removed (string_bytes name))) names)
    ≡ filter (λ name. not (is_listed (map string_bytes removed) name)) (map string_bytes names)
filter_texts removed [] = refl
filter_texts removed (first ∷ names) =
    let kept : List (String Global) = filter (λ name. not (is_named removed (string_bytes name))) names in
    by (not (is_named removed (string_bytes first))) kept
    ∙ ap (λ (b : Bool). cond (not b) (string_bytes first ∷ map string_bytes kept) (map string_bytes kept)) (sym (named_listed removed (string_bytes first)))
    ∙ ap (λ (all : List (List ℕ)). cond (not (is_listed (map string_bytes removed) (string_bytes first))) (string_bytes first ∷ all) all)
    (filter_texts removed names)
  where
    by : (b : Bool) (kept : List (String Global)) → map string_bytes (cond b (first ∷ kept) kept)
        ≡ cond b (string_bytes first ∷ map string_bytes kept) (map string_bytes kept)
    by true kept = refl
    by false kept = refl

module _ (old : List (List ℕ)) (saved : List (String Global)) (i : ℕ) (names : List (String Global))
    (so_far : map string_bytes names ≡ with_saved old (map string_bytes (take i saved))) where
  -- one more of the files that are saved is listed
  pub saved_more : (name : String Global) (bytes : List ℕ) (after : List (String Global)) → i < length saved → name ≡ get_or saved i name
      → bytes ≡ string_bytes name → map string_bytes after ≡ with_saved (map string_bytes names) (bytes ∷ [])
      → map string_bytes after ≡ with_saved old (map string_bytes (take (i + 1) saved))
  saved_more name bytes after below item spelled added =
      let more : map string_bytes (take (i + 1) saved) ≡ map string_bytes (take i saved) ++ string_bytes name ∷ [] =
      ap (map string_bytes) (take_more saved i name below ∙ ap (λ (next : String Global). take i saved ++ next ∷ []) (sym item))
      ∙ map_push string_bytes (take i saved) name in
      added ∙ ap (λ (all : List (List ℕ)). with_saved all (bytes ∷ [])) so_far
      ∙ ap (λ (last : List ℕ). with_saved (with_saved old (map string_bytes (take i saved))) (last ∷ [])) spelled
      ∙ sym (one_more old (map string_bytes (take i saved)) (string_bytes name))
      ∙ ap (with_saved old) (sym more)

  -- all of them are listed, and those that are removed are not
  pub all_saved : (removed kept : List (String Global)) → length saved ≤ i
      → kept ≡ filter (λ name. not (is_named removed (string_bytes name))) names
      → map string_bytes kept ≡ names_after (map string_bytes saved) (map string_bytes removed) old
  all_saved removed kept past filtered =
      ap (map string_bytes) filtered ∙ filter_texts removed names
      ∙ ap (filter (λ name. not (is_listed (map string_bytes removed) name)))
      (so_far ∙ ap (λ (all : List (String Global)). with_saved old (map string_bytes all)) (take_all i saved past))
