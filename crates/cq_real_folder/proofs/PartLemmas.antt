-- The names of parts.
use Rattle.std.proofs.Common.{◌≡◌, ◌≢◌, ◌+◌, ◌-◌, ◌<◌, ◌^◌, ◌++◌, ◌∷◌, ◌∙◌, suc, ℕ, List, Result, Ok, ap, arith, append_assoc, drop, get_or, length, length-append, subst, sym, take}
use Rattle.std.proofs.Math.Seq.{drop-append-add, get_or-append_seam, take-append_seam}
use Rattle.std.proofs.lemmas.Fmt.{decimal_is_IsNumeral, parse-decimal}
use Rattle.std.proofs.lemmas.List.{append_cancel_right, get_or-append-add}
use Rattle.std.proofs.lemmas.Str.Parse.{digit_at}
use Rattle.std.specs.Fmt.{decimal}
use Rattle.std.specs.List.{slice_range}
use Rattle.std.specs.Str.Parse.{ParsesUnsigned}
use Rattle.cq_folder.specs.declared.names.TheConstants.{PART_ENDING}
use Rattle.cq_real_folder.specs.Record.{part_name}

-- what comes before `.part` in the name of a part
abbrev pub stem : List ℕ → ℕ → List ℕ
stem file process = file ++ 46 ∷ decimal process

pub part_is : (file : List ℕ) (process : ℕ) → part_name file process ≡ stem file process ++ PART_ENDING.now
part_is file process = sym (append_assoc file (46 ∷ decimal process) PART_ENDING.now)

-- what is left of the name of a part without `.part`
pub front_is : (name front cut file : List ℕ) (process : ℕ) → name ≡ cut ++ PART_ENDING.now → front ≡ cut
    → name ≡ part_name file process → front ≡ stem file process
front_is name front cut file process ends is spelled =
    append_cancel_right front (stem file process) PART_ENDING.now
    (ap (λ (bytes : List ℕ). bytes ++ PART_ENDING.now) is ∙ sym ends ∙ spelled ∙ part_is file process)

pub front_part : (bytes : List ℕ) (k : ℕ) → slice_range bytes 0 k ≡ take k bytes
front_part bytes k = let same : k - 0 ≡ k = omega arith in ap (λ (n : ℕ). take n bytes) same

neither_less : (a b : ℕ) → ¬ (a < b) → ¬ (b < a) → a ≡ b
neither_less a b one other = grind arith

-- no byte is a dot
abbrev pub HasNoDot : List ℕ → Type 0
HasNoDot bytes = (k : ℕ) → k < length bytes → get_or bytes k 0 ≢ 46

-- the last dot is at this place
abbrev pub IsLastDot : List ℕ → ℕ → Type 0
IsLastDot bytes k = (k < length bytes) × (get_or bytes k 0 ≡ 46) × ((i : ℕ) → k < i → i < length bytes → get_or bytes i 0 ≢ 46)

module _ (file : List ℕ) (process : ℕ) (number : process < 2 ^ 32) where
  is_no_dot : HasNoDot (decimal process)
  is_no_dot k below same =
      let numeral = (decimal_is_IsNumeral process (omega (arith, number))).0 in
      let digit = digit_at (decimal process) k numeral.1 below in
      omega (arith, digit.0, same)

  pub has_dot : (front : List ℕ) → front ≡ stem file process → ¬ HasNoDot front
  has_dot front is none =
      subst HasNoDot is none (length file) (omega (arith, length-append file (46 ∷ decimal process)))
      (get_or-append_seam file 46 (decimal process) 0)

  dot_at : (k : ℕ) → IsLastDot (stem file process) k → k ≡ length file
  dot_at k (within, stands, last) = neither_less k (length file) not_before not_after
    where
      not_before : ¬ (k < length file)
      not_before less =
          last (length file) less (omega (arith, length-append file (46 ∷ decimal process)))
          (get_or-append_seam file 46 (decimal process) 0)

      not_after : ¬ (length file < k)
      not_after more =
          let j : ℕ = k - (length file + 1) in
          let place : k ≡ length file + suc j = omega (arith, more) in
          is_no_dot j (omega (arith, within, more, length-append file (46 ∷ decimal process)))
          (sym (get_or-append-add file (46 ∷ decimal process) (suc j) 0) ∙ ap (λ (i : ℕ). get_or (stem file process) i 0) (sym place) ∙ stands)

  module _ (front : List ℕ) (is : front ≡ stem file process) (dot : ℕ) (last : IsLastDot front dot) where
    at_end : dot ≡ length file
    at_end = dot_at dot (subst (λ (bytes : List ℕ). IsLastDot bytes dot) is last)

    pub file_is : take dot front ≡ file
    file_is =
        ap (λ (bytes : List ℕ). take dot bytes) is ∙ ap (λ (k : ℕ). take k (stem file process)) at_end
        ∙ take-append_seam file (46 ∷ decimal process)

    pub number_is : drop (dot + 1) front ≡ decimal process
    number_is =
        ap (λ (bytes : List ℕ). drop (dot + 1) bytes) is ∙ ap (λ (k : ℕ). drop (k + 1) (stem file process)) at_end
        ∙ drop-append-add file (46 ∷ decimal process) 1

  pub is_parsed : {E : Type 0} (word : List ℕ) (result : Result ℕ E) → word ≡ decimal process → ParsesUnsigned 32 10 word result
      → result ≡ Ok process
  is_parsed word result is parses = parse-decimal 32 process word result number (omega (arith, number)) is parses
