use Rattle.std.proofs.Common.{◌≡◌, ℕ, zero, suc, ◌+◌, ◌-◌, ◌*◌, ◌/◌, ◌%◌, ◌^◌, ◌<◌, ◌≤◌, ◌⊎◌, inl, inr}
use Rattle.std.proofs.Common.{Bool, true, false, cond, nat_eq, nat_lt, List, [], ◌∷◌, ◌++◌, length, get_or, drop}
use Rattle.std.proofs.Common.{refl, ap, sym, subst, ◌∙◌, arith, length-append}
use Rattle.std.specs.Prelude.{Option, Some, IfSome, Result, Ok, Err, replicate}
use Rattle.std.specs.Char.{digit_value}
use Rattle.std.specs.Fmt.{digit_glyph, digits, digits_onto}
use Rattle.std.specs.Int.{IsInRange}
use Rattle.std.specs.List.{AllByRecursion}
use Rattle.std.specs.Result.{OkIff, result_ok}
use Rattle.std.specs.Str.Parse.{AllDigits, IsNumeral, ParsesUnsigned}
use Rattle.std.specs.Str.Parse.{digits_value, digits_value_after, without_leading_plus}
use Rattle.std.proofs.Math.Nat.{div-lt_iff_lt-mul, mod-lt, pow-suc}
use Rattle.std.proofs.lemmas.Bool.{both_ways, cond-false, cond-true}
use Rattle.std.proofs.lemmas.Bool.{eqb-false, le-ltb, lt-ltb, ltb-false, ltb-true, ne_eqb}
use Rattle.std.proofs.lemmas.Fmt.{digits_is_IsNumeral}
use Rattle.std.proofs.lemmas.List.{get_or_default, length-replicate}
use Rattle.cq_cycle.specs.Index.{index_text}
use Rattle.cq_layout.proofs.Each.{each-all, each-from_all}
use Rattle.cq_points.proofs.points.index_value.Goals as goal

-- a lower-case hexadecimal digit
abbrev IsHex : ℕ → Type 0
IsHex c = IsInRange 48 57 c ⊎ IsInRange 97 102 c

low_value : (c : ℕ) → IsInRange 48 57 c → digit_value c ≡ c - 48
low_value c range =
    let low = range.0 in
    let high = range.1 in
    cond-false (nat_lt c 48) _ _ (le-ltb c 48 (omega arith)) ∙ cond-true (nat_lt c 58) _ _ (lt-ltb c 58 (omega arith))

high_value : (c : ℕ) → IsInRange 97 102 c → digit_value c ≡ c - 87
high_value c range =
    let low = range.0 in
    let high = range.1 in
    cond-false (nat_lt c 48) _ _ (le-ltb c 48 (omega arith)) ∙ cond-false (nat_lt c 58) _ _ (le-ltb c 58 (omega arith))
    ∙ cond-false (nat_lt c 65) _ _ (le-ltb c 65 (omega arith))
    ∙ cond-false (nat_lt c 91) _ _ (le-ltb c 91 (omega arith))
    ∙ cond-false (nat_lt c 97) _ _ (le-ltb c 97 (omega arith))
    ∙ cond-true (nat_lt c 123) _ _ (lt-ltb c 123 (omega arith))

hex_below : (c : ℕ) → IsHex c → digit_value c < 16
hex_below c (inl range) = let high = range.1 in subst (λ (d : ℕ). d < 16) (sym (low_value c range)) (omega arith)
hex_below c (inr range) = let high = range.1 in subst (λ (d : ℕ). d < 16) (sym (high_value c range)) (omega arith)

-- two digits of one value are the same
hex_same : (a b : ℕ) → IsHex a → IsHex b → digit_value a ≡ digit_value b → a ≡ b
hex_same a b (inl one) (inl two) e =
    let same : a - 48 ≡ b - 48 = sym (low_value a one) ∙ e ∙ low_value b two in
    let one_low = one.0 in
    let two_low = two.0 in
    omega arith
hex_same a b (inl one) (inr two) e =
    let same : a - 48 ≡ b - 87 = sym (low_value a one) ∙ e ∙ high_value b two in
    let one_high = one.1 in
    let two_low = two.0 in
    absurd (omega arith)
hex_same a b (inr one) (inl two) e =
    let same : a - 87 ≡ b - 48 = sym (high_value a one) ∙ e ∙ low_value b two in
    let one_low = one.0 in
    let two_high = two.1 in
    absurd (omega arith)
hex_same a b (inr one) (inr two) e =
    let same : a - 87 ≡ b - 87 = sym (high_value a one) ∙ e ∙ high_value b two in
    let one_low = one.0 in
    let two_low = two.0 in
    omega arith

hex_glyph : (d : ℕ) → d < 16 → IsHex (digit_glyph false d)
hex_glyph d below = by (nat_lt d 10) refl
  where
    by : (t : Bool) → nat_lt d 10 ≡ t → IsHex (cond t (48 + d) (87 + d))
    by true e = let low = ltb-true d 10 e in inl (omega arith, omega arith)
    by false e = let high = ltb-false d 10 e in inr (omega arith, omega arith)

-- the last k digits of a number at most, and what stands behind them
abbrev hex_onto : ℕ → ℕ → List ℕ → List ℕ
hex_onto k n behind = digits_onto k 16 false n behind

-- the last digit of a number, and what stands behind it
abbrev last_onto : ℕ → List ℕ → List ℕ
last_onto n behind = digit_glyph false (n % 16) ∷ behind

-- all that is written of a number are such digits
onto_hex : (k n : ℕ) (behind : List ℕ) → AllByRecursion IsHex behind → AllByRecursion IsHex (hex_onto k n behind)
onto_hex zero n behind all = all
onto_hex (suc k) n behind all =
    let some : 0 < 16 = omega arith in
    let glyph = hex_glyph (n % 16) (mod-lt n some) in
    let last = last_onto n behind in
    elim (nat_eq (n / 16) 0) as (λ b. AllByRecursion IsHex (cond b (last_onto n behind) (hex_onto k (n / 16) last))) [
      | true ↦ (glyph, all)
      | false ↦ onto_hex k (n / 16) (last_onto n behind) (glyph, all)
    ]

-- a number below a power of 16 has no more digits than that
onto_length : (k j n : ℕ) (behind : List ℕ) → n < 16 ^ suc j → length (hex_onto k n behind) ≤ suc j + length behind
onto_length zero j n behind below = omega arith
onto_length (suc k) j n behind below =
    by (nat_eq (n / 16) 0) refl (λ i less. onto_length k i (n / 16) (last_onto n behind) less) j below
  where
    by : (t : Bool) → nat_eq (n / 16) 0 ≡ t
        → ((i : ℕ) → n / 16 < 16 ^ suc i
        → length (hex_onto k (n / 16) (last_onto n behind)) ≤ suc i + suc (length behind))
        → (i : ℕ) → n < 16 ^ suc i
        → length (cond t (last_onto n behind) (hex_onto k (n / 16) (last_onto n behind))) ≤ suc i + length behind
    by true e more i small = omega arith
    by false e more zero small = absurd (eqb-false (n / 16) 0 e (omega arith))
    by false e more (suc i) small =
        let some : 0 < 16 = omega arith in
        let product : n < 16 ^ suc i * 16 = subst (λ (m : ℕ). n < m) (pow-suc 16 (suc i)) small in
        let less : n / 16 < 16 ^ suc i = (div-lt_iff_lt-mul some).1 product in
        let one_less = more i less in
        omega arith

digits_hex : (n : ℕ) → AllByRecursion IsHex (digits 16 false n)
unfolding digits
digits_hex n = onto_hex 64 n [] tt

digits_length : (n : ℕ) → n < 2 ^ 64 → length (digits 16 false n) ≤ 16
unfolding digits
digits_length n below = onto_length 64 15 n [] below

zeros_hex : (m : ℕ) (xs : List ℕ) → AllByRecursion IsHex xs → AllByRecursion IsHex (replicate m 48 ++ xs)
zeros_hex zero xs all = all
zeros_hex (suc m) xs all = (inl (omega arith, omega arith), zeros_hex m xs all)

zeros_value : (m : ℕ) (xs : List ℕ) → digits_value_after 16 0 (replicate m 48 ++ xs) ≡ digits_value_after 16 0 xs
zeros_value zero xs = refl
zeros_value (suc m) xs = zeros_value m xs

-- the text of an index is 16 digits that write it
text_hex : (n : ℕ) → AllByRecursion IsHex (index_text n)
text_hex n = zeros_hex (16 - length (digits 16 false n)) (digits 16 false n) (digits_hex n)

text_length : (n : ℕ) → n < 2 ^ 64 → length (index_text n) ≡ 16
text_length n below =
    let long = digits_length n below in
    let missing : ℕ = 16 - length (digits 16 false n) in
    let zeros : List ℕ = replicate missing 48 in
    let count : length zeros ≡ missing = length-replicate missing 48 in
    length-append zeros (digits 16 false n) ∙ ap (λ (m : ℕ). m + length (digits 16 false n)) count ∙ omega arith

text_value : (n : ℕ) → n < 2 ^ 64 → digits_value 16 (index_text n) ≡ n
text_value n below =
    zeros_value (16 - length (digits 16 false n)) (digits 16 false n)
    ∙ (digits_is_IsNumeral 16 false (omega arith) (omega arith) n (omega arith)).1

all_digits : (xs : List ℕ) → AllByRecursion IsHex xs → AllDigits 16 xs
all_digits [] all = tt
all_digits (x ∷ xs) all = (hex_below x all.0, all_digits xs all.1)

no_plus : (xs : List ℕ) → AllByRecursion IsHex xs → without_leading_plus xs ≡ xs
no_plus [] all = refl
no_plus (x ∷ xs) all = ap (λ (b : Bool). drop (cond b 1 0) (x ∷ xs)) (ne_eqb x 43 (differs all.0))
  where
    differs : IsHex x → x ≡ 43 → ⊥
    differs (inl range) e = let low = range.0 in omega arith
    differs (inr range) e = let low = range.0 in omega arith

halves : (n m d e : ℕ) → d < 16 → e < 16 → n * 16 + d ≡ m * 16 + e → (n ≡ m) × (d ≡ e)
halves n m d e one two same = (omega arith, omega arith)

-- as many digits that write one number are the same
same_digits : (xs ys : List ℕ) (n m : ℕ) → length xs ≡ length ys → AllByRecursion IsHex xs → AllByRecursion IsHex ys
    → digits_value_after 16 n xs ≡ digits_value_after 16 m ys → (n ≡ m) × (xs ≡ ys)
same_digits [] [] n m long one two same = (same, refl)
same_digits [] (y ∷ ys) n m long one two same = absurd (omega arith)
same_digits (x ∷ xs) [] n m long one two same = absurd (omega arith)
same_digits (x ∷ xs) (y ∷ ys) n m long one two same =
    let rest : (n * 16 + digit_value x ≡ m * 16 + digit_value y) × (xs ≡ ys)
    = same_digits xs ys (n * 16 + digit_value x) (m * 16 + digit_value y) (omega arith) one.1 two.1 same in
    let parts = halves n m (digit_value x) (digit_value y) (hex_below x one.0) (hex_below y two.0) rest.0 in
    (parts.0, ap (λ (c : ℕ). c ∷ xs) (hex_same x y one.0 two.0 parts.1) ∙ ap (λ (cs : List ℕ). y ∷ cs) rest.1)

-- what is known of the number that was read
abbrev IsRead : {E : Type 0} → List ℕ → Result ℕ E → Type 0
IsRead word read = OkIff read (IsNumeral 16 word × (digits_value 16 word < 2 ^ 64)) (digits_value 16 word)

read_word : {E : Type 0} (word : List ℕ) (read : Result ℕ E) → AllByRecursion IsHex word
    → ParsesUnsigned 64 16 word read → IsRead word read
read_word word read all parses =
    subst (λ (digits : List ℕ). IsRead digits read) (no_plus word all) parses

is_found : {E : Type 0} (word : List ℕ) (read : Result ℕ E) → AllByRecursion IsHex word → length word ≡ 16
    → IsRead word read → IfSome (result_ok read) (λ index. word ≡ index_text index)
is_found word (Ok index) all long parses =
    let below : index < 2 ^ 64 = subst (λ (n : ℕ). n < 2 ^ 64) (sym parses.1) parses.0.1 in
    let as_long : length word ≡ length (index_text index) = long ∙ sym (text_length index below) in
    let same_value : digits_value 16 word ≡ digits_value 16 (index_text index) =
    sym parses.1 ∙ sym (text_value index below) in
    (same_digits word (index_text index) 0 0 as_long all (text_hex index) same_value).1
is_found word (Err error) all long parses = tt

is_only : {E : Type 0} (word : List ℕ) (read : Result ℕ E) (index : ℕ) → AllByRecursion IsHex word → length word ≡ 16
    → IsRead word read → digits_value 16 word ≡ index → index < 2 ^ 64
    → result_ok read ≡ Some index
is_only word (Ok value) index all long parses is below = ap (λ (n : ℕ). Some n) (parses.1 ∙ is)
is_only word (Err error) index all long parses is below =
    absurd (parses ((omega arith, all_digits word all), subst (λ (n : ℕ). n < 2 ^ 64) (sym is) below))

-- such digits, by index
each_hex : (xs : List ℕ) → ((k : ℕ) → k < length xs → IsHex (get_or xs k 0)) → AllByRecursion IsHex xs
each_hex xs at = each-from_all IsHex xs (λ k d below. subst IsHex (get_or_default xs k 0 d below) (at k below))

pub returns-clause-found : goal.returns-clause-found
returns-clause-found c =
    let word = c.args.word.now in
    let bytes_are = c.as_bytes.ensures.value in
    let read = c.from_str_radix in
    let known = c.is_index.ensures.0 c.if-not-is_index.false in
    let long : length c.args.word.now ≡ 16 = sym (ap length bytes_are) ∙ known.0 in
    let all : AllByRecursion IsHex c.args.word.now =
    subst (AllByRecursion IsHex) bytes_are (each_hex c.as_bytes.result.now known.1) in
    subst (λ (found : Option ℕ). IfSome found (λ index. c.args.word.now ≡ index_text index)) (sym c.ok.ensures.value)
    (is_found word read.result all long (read_word word read.result all read.ensures.value))

pub returns-clause-only : goal.returns-clause-only
returns-clause-only c index below is =
    let word = c.args.word.now in
    let read = c.from_str_radix in
    let long = ap length is ∙ text_length index below in
    let all : AllByRecursion IsHex c.args.word.now = subst (AllByRecursion IsHex) (sym is) (text_hex index) in
    let value = ap (digits_value 16) is ∙ text_value index below in
    c.ok.ensures.value
    ∙ is_only word read.result index all long (read_word word read.result all read.ensures.value) value below

pub returns-then-not-is_index-clause-only : goal.returns-then-not-is_index-clause-only
returns-then-not-is_index-clause-only c index below is =
    let bytes = c.as_bytes.result.now in
    let text : c.as_bytes.result.now ≡ index_text index = c.as_bytes.ensures.value ∙ is in
    let long = ap length text ∙ text_length index below in
    let all : AllByRecursion IsHex c.as_bytes.result.now = subst (AllByRecursion IsHex) (sym text) (text_hex index) in
    let accepted = c.is_index.ensures.1 (long, λ k bounded. each-all IsHex bytes all k 0 bounded) in
    absurd (both_ways c.is_index.result c.if-not-is_index.true accepted)
