-- What is between the quotes of a word.
use Rattle.std.proofs.Common.{◌≡◌, ℕ, ◌<◌, ◌+◌, List, [], ◌∷◌, ◌++◌, ◌==◌, Bool, true, false, length, refl, ap, sym, append_assoc, arith, ◌∙◌}
use Rattle.std.specs.Prelude.{Result, Ok, Err, OnOk, if◌then◌else◌}
use Rattle.std.specs.Result.{is_ok}
use Rattle.std.specs.List.{position_or_len, before_first, after_first}
use Rattle.cq_new.specs.Line.{escaped, quoted}

abbrev pub is_quote : ℕ → Bool
is_quote byte = byte == 39

-- it is what is before the first quote, the quote escaped, and so on with what is after it
abbrev pub Cut : List ℕ → Type 0
Cut text = position_or_len is_quote text < length text
    → quoted text ≡ before_first is_quote text ++ ((39 ∷ 92 ∷ 39 ∷ 39 ∷ []) ++ quoted (after_first is_quote text))

cut-more : (byte : ℕ) (text : List ℕ) (is : Bool) → (byte == 39) ≡ is → Cut text → Cut (byte ∷ text)
cut-more byte text true e rest within = rw e refl
cut-more byte text false e rest within = grind (arith, e, rest)

pub quote-cut : (text : List ℕ) → Cut text
quote-cut [] within = absurd (let no : ⊥ = omega arith in no)
quote-cut (byte ∷ text) within = cut-more byte text (byte == 39) refl (quote-cut text) within

-- where there is none it is the text
abbrev pub Plain : List ℕ → Type 0
Plain text = position_or_len is_quote text ≡ length text → quoted text ≡ text

plain-more : (byte : ℕ) (text : List ℕ) (is : Bool) → (byte == 39) ≡ is → Plain text → Plain (byte ∷ text)
plain-more byte text true e rest none = grind (arith, e)
plain-more byte text false e rest none = grind (arith, e, rest)

pub quote-none : (text : List ℕ) → Plain text
quote-none [] none = refl
quote-none (byte ∷ text) none = plain-more byte text (byte == 39) refl (quote-none text) none

-- one part more was written, and its quote escaped
pub quote-step : (line first second front rest back whole : List ℕ) → first ≡ line ++ front → second ≡ first ++ (39 ∷ 92 ∷ 39 ∷ 39 ∷ [])
    → front ≡ before_first is_quote rest → back ≡ after_first is_quote rest → position_or_len is_quote rest < length rest
    → line ++ quoted rest ≡ whole → second ++ quoted back ≡ whole
quote-step line first second front rest back whole one two f b within is =
    let mark : List ℕ = 39 ∷ 92 ∷ 39 ∷ 39 ∷ [] in
    let cut : front ++ (mark ++ quoted back) ≡ quoted rest =
    ap (λ (xs : List ℕ). xs ++ (mark ++ quoted back)) f
    ∙ (ap (λ (xs : List ℕ). before_first is_quote rest ++ (mark ++ quoted xs)) b ∙ sym (quote-cut rest within)) in
    ap (λ (xs : List ℕ). xs ++ quoted back) two
    ∙ (ap (λ (xs : List ℕ). (xs ++ mark) ++ quoted back) one
    ∙ (append_assoc (line ++ front) mark (quoted back)
    ∙ (append_assoc line front (mark ++ quoted back)
    ∙ (ap (λ (xs : List ℕ). line ++ xs) cut ∙ is))))

-- the last part was written
pub quote-end : (line last rest whole : List ℕ) → last ≡ line ++ rest → position_or_len is_quote rest ≡ length rest → line ++ quoted rest ≡ whole
    → last ≡ whole
quote-end line last rest whole is none all = is ∙ (ap (λ (xs : List ℕ). line ++ xs) (sym (quote-none rest none)) ∙ all)

pub quote-done : {A B : Type 0} (result : Result A B) (line last rest whole : List ℕ) → last ≡ (if is_ok result then line ++ rest else line)
    → position_or_len is_quote rest ≡ length rest → line ++ quoted rest ≡ whole → OnOk result (last ≡ whole)
quote-done (Ok x) line last rest whole is none all = quote-end line last rest whole is none all
quote-done (Err e) line last rest whole is none all = tt
