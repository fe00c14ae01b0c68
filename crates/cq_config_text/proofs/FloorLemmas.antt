-- The line of the floor, which may stand in a text or not.
use Rattle.std.proofs.Common.{◌≡◌, ◌==◌, ℕ, ◌+◌, ◌<◌, ◌^◌, List, [], ◌∷◌, ◌++◌, get_or, refl, ap, sym, ◌∙◌, arith, cond, Bool, true, false, ◌&&◌, codes}
use Rattle.std.proofs.lemmas.Bool.Decides.{nat_tests}
use Rattle.std.proofs.lemmas.Fmt.{decimal_injective}
use Rattle.std.specs.Cmp.Lexicographic.{pointwise}
use Rattle.std.specs.Fmt.{decimal}
use Rattle.cq_config_text.specs.ConfigText.{fault_from, floor_form, floor_forms, floor_lines, has_form, line_at, line_of, name_lines, setting_words}
use Rattle.cq_config_text.proofs.FaultLemmas.{fault_at_end, fault_behind, lines_in}
use Rattle.cq_config_text.proofs.LineLemmas.{positive_passes}
use Rattle.cq_config_text.proofs.SpellingLemmas.{IsPrintedLine, words_of_line}

-- the first line of a text is of the floor, or not
module _ (text line : List ℕ) (parts : List (List ℕ)) (cut : lines_in text ≡ line ∷ parts) where
  pub forms_at : floor_forms (line_at text 0) ≡ floor_forms line
  forms_at = ap (λ (lines : List (List ℕ)). floor_forms (get_or lines 0 [])) cut

  pub forms_with : has_form floor_form line ≡ true → floor_forms (line_at text 0) ≡ floor_form ∷ []
  forms_with passes = forms_at ∙ ap (λ b. cond b (floor_form ∷ []) []) passes

  pub forms_without : has_form floor_form line ≡ false → floor_forms (line_at text 0) ≡ []
  forms_without fails = forms_at ∙ ap (λ b. cond b (floor_form ∷ []) []) fails

pub fault_behind_floor : (text line rest : List ℕ) → lines_in text ≡ line ∷ lines_in rest
    → has_form floor_form line ≡ true → (number : ℕ)
    → fault_from number (floor_forms (line_at text 0)) text ≡ fault_from (number + 1) [] rest
fault_behind_floor text line rest cut passes number =
    ap (λ forms. fault_from number forms text) (forms_with text line (lines_in rest) cut passes)
    ∙ fault_behind text line rest cut number (floor_form ∷ []) passes

pub fault_without_floor : (text line : List ℕ) (parts : List (List ℕ)) → lines_in text ≡ line ∷ parts
    → has_form floor_form line ≡ false → (number : ℕ)
    → fault_from number (floor_forms (line_at text 0)) text ≡ fault_from number [] text
fault_without_floor text line parts cut fails number =
    ap (λ forms. fault_from number forms text) (forms_without text line parts cut fails)

pub no_floor_at_end : has_form floor_form [] ≡ false
unfolding has_form
no_floor_at_end = refl

-- a text with no line feed
pub fault_of_last_line : (text : List ℕ) → lines_in text ≡ text ∷ [] → (number : ℕ)
    → fault_from number (floor_forms (line_at text 0)) text ≡ fault_from number [] text
fault_of_last_line [] cut number = fault_without_floor [] [] [] refl no_floor_at_end number
fault_of_last_line (byte ∷ bytes) cut number =
    fault_at_end (byte ∷ bytes) cut number (floor_forms (line_at (byte ∷ bytes) 0)) (omega arith)
    ∙ sym (fault_at_end (byte ∷ bytes) cut number [] (omega arith))

-- which lines are of the floor
pub name_is_no_floor : (name position : List ℕ) → IsPrintedLine (codes "name" ∷ name ∷ position ∷ [])
    → has_form floor_form (line_of (codes "name" ∷ name ∷ position ∷ [])) ≡ false
unfolding has_form
name_is_no_floor name position printed =
    ap (pointwise (λ (test : List ℕ → Bool) word. test word) floor_form)
    (words_of_line (codes "name" ∷ name ∷ position ∷ []) printed)

pub floor_is_floor : (floor : ℕ) → 0 < floor → floor < 2 ^ 64 → IsPrintedLine (setting_words (codes "floor") floor)
    → has_form floor_form (line_of (setting_words (codes "floor") floor)) ≡ true
unfolding has_form
floor_is_floor floor some fits printed =
    ap (pointwise (λ (test : List ℕ → Bool) word. test word) floor_form)
    (words_of_line (setting_words (codes "floor") floor) printed)
    ∙ ap (λ b. b && true) (positive_passes (decimal floor) floor some fits refl)

-- whether there is a line of the floor, and which, is told by the lines before the names
abbrev Words : Type 0
Words = List (List ℕ)

no_name_is_floor : (names : List (List ℕ)) (places : List ℕ) (floor : ℕ) (lines : List Words)
    → name_lines names places ≡ setting_words (codes "floor") floor ∷ lines → ⊥
no_name_is_floor [] places floor lines same = cc
no_name_is_floor (name ∷ names) [] floor lines same = cc
no_name_is_floor (name ∷ names) (place ∷ places) floor lines same = cc

pub not_zero : (floor : ℕ) → (floor == 0) ≡ false → 0 < floor
not_zero floor fails = grind (arith, nat_tests)

is_zero : (floor : ℕ) → (floor == 0) ≡ true → floor ≡ 0
is_zero floor passes = grind (arith, nat_tests)

module _ (floor start : ℕ) (fits : floor < 2 ^ 64) (fits' : start < 2 ^ 64) (names names' : List (List ℕ))
    (places places' : List ℕ) where
  by_tests : (b : Bool) → (floor == 0) ≡ b → (b' : Bool) → (start == 0) ≡ b'
      → cond b [] (setting_words (codes "floor") floor ∷ []) ++ name_lines names places
      ≡ cond b' [] (setting_words (codes "floor") start ∷ []) ++ name_lines names' places'
      → (floor ≡ start) × (name_lines names places ≡ name_lines names' places')
  by_tests true is true is' same = (is_zero floor is ∙ sym (is_zero start is'), same)
  by_tests true is false is' same = absurd (no_name_is_floor names places start (name_lines names' places') same)
  by_tests false is true is' same = absurd (no_name_is_floor names' places' floor (name_lines names places) (sym same))
  by_tests false is false is' same =
      let word : decimal floor ≡ decimal start = cc in
      (decimal_injective floor start fits fits' word, cc)

  pub floor_lines_injective : floor_lines floor ++ name_lines names places ≡ floor_lines start ++ name_lines names' places'
      → (floor ≡ start) × (name_lines names places ≡ name_lines names' places')
  floor_lines_injective = by_tests (floor == 0) refl (start == 0) refl
