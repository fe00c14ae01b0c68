-- The text of a record, name by name.
use Rattle.std.proofs.Common.{◌≡◌, ◌∙◌, ◌+◌, ◌++◌, ◌<◌, ◌≤◌, ◌∷◌, [], Global, List, String, ap, append-nil, append_assoc, get_or, length, string_bytes, sym, take, ℕ}
use Rattle.std.proofs.lemmas.Grind.{flat_map-append}
use Rattle.std.proofs.lemmas.List.{take_all, take_more}
use Rattle.cq_real_folder.specs.Record.{name_text}

module _ (head : List ℕ) (names : List (String Global)) (i : ℕ) (text : List ℕ) (so_far : text ≡ head ++ name_text (take i names)) where
  -- one more name is in the text
  pub name_more : (name : String Global) (named after : List ℕ) → i < length names → name ≡ get_or names i name
      → named ≡ text ++ string_bytes name → after ≡ named ++ 10 ∷ [] → after ≡ head ++ name_text (take (i + 1) names)
  name_more name named after below is_name is_named is_after =
      let before = name_text (take i names) in
      let line : List ℕ = string_bytes name ++ 10 ∷ [] in
      let more : name_text (take (i + 1) names) ≡ before ++ line =
      ap name_text (take_more names i name below ∙ ap (λ (next : String Global). take i names ++ next ∷ []) (sym is_name))
      ∙ flat_map-append (λ (next : String Global). string_bytes next ++ 10 ∷ []) (take i names) (name ∷ [])
      ∙ ap (λ (bytes : List ℕ). before ++ bytes) (append-nil line) in
      is_after ∙ ap (λ (bytes : List ℕ). bytes ++ 10 ∷ []) (is_named ∙ ap (λ (bytes : List ℕ). bytes ++ string_bytes name) so_far)
      ∙ append_assoc (head ++ before) (string_bytes name) (10 ∷ []) ∙ append_assoc head before line
      ∙ ap (λ (bytes : List ℕ). head ++ bytes) (sym more)

  -- all names are in the text
  pub names_ended : length names ≤ i → text ≡ head ++ name_text names
  names_ended past = so_far ∙ ap (λ (all : List (String Global)). head ++ name_text all) (take_all i names past)
