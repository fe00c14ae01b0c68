-- Words of a line: numbers, rolls and names.
use Rattle.std.proofs.Common.{◌≡◌, ℕ, zero, suc, ◌<◌, ◌≤◌, ◌^◌, List, All, length, get_or, refl, ap, sym, ◌∙◌, subst, arith, true, nat_lt, Some, Ok, Err, Result, IfSome}
use Rattle.std.proofs.lemmas.Fmt.{decimal_is_IsNumeral, decimal_digit, decimal-digits_value, first_decimal, IsAscii-decimal, parse-decimal}
use Rattle.std.proofs.lemmas.Str.{IsUtf8-from_ascii}
use Rattle.std.proofs.lemmas.Str.Ascii.{IsAscii-from_all}
use Rattle.std.proofs.lemmas.Str.Parse.{digit_at, numerals_by_value, parse_plain, tells_all_ascii_digits}
use Rattle.std.proofs.lemmas.Bool.Decides.{nat_tests}
use Rattle.std.specs.List.{list_all}
use Rattle.cq_config_text.proofs.CutLemmas.{all_tested}
use Rattle.std.specs.Fmt.{decimal}
use Rattle.std.specs.Result.{result_ok}
use Rattle.std.specs.Str.{IsUtf8, all_ascii_digits}
use Rattle.std.specs.Str.Parse.{ParsesUnsigned}
use Rattle.cq_cycle.specs.RollWord.{roll_word}
use Rattle.cq_cycle.specs.declared.roll.Roll.{Roll}
use Rattle.cq_cycle.specs.declared.roll.Roll.TheVariants.{Daily}
use Rattle.cq_model.specs.Settings.{IsNameByte}
use Rattle.cq_config_text.specs.ConfigText.{IsNameWord}

-- a number begins with a digit, and with a zero only where that is all of it
pub record BeginsAsNumber (word : List ℕ) : Type 0 where
  pub some : 0 < length word
  pub low : 48 ≤ get_or word 0 0
  pub high : get_or word 0 0 ≤ 57
  pub alone : get_or word 0 0 ≡ 48 → length word ≡ 1

alone_zero : (n : ℕ) → n < 2 ^ 64 → get_or (decimal n) 0 0 ≡ 48 → length (decimal n) ≡ 1
alone_zero zero fits begins = ap length (decimal_digit 0 (omega arith))
alone_zero (suc n) fits begins = absurd (omega (arith, first_decimal (suc n) (omega arith) fits))

decimal_begins : (n : ℕ) → n < 2 ^ 64 → BeginsAsNumber (decimal n)
decimal_begins n fits =
    let numeral = decimal_is_IsNumeral n fits in
    let first = digit_at (decimal n) 0 numeral.0.1 numeral.0.0 in
    record { some = numeral.0.0; low = first.0; high = first.1; alone = alone_zero n fits }

pub number_begins : (word : List ℕ) (n : ℕ) → n < 2 ^ 64 → word ≡ decimal n → BeginsAsNumber word
number_begins word n fits spelled = subst BeginsAsNumber (sym spelled) (decimal_begins n fits)

pub number_is_text : (word : List ℕ) (n : ℕ) → n < 2 ^ 64 → word ≡ decimal n → IsUtf8 word
number_is_text word n fits spelled = subst IsUtf8 (sym spelled) (IsUtf8-from_ascii (decimal n) (IsAscii-decimal n fits))

-- what `parse` reads as a number that begins as one is that number, as it is printed
module _ {E : Type 0} (word text : List ℕ) (same : text ≡ word) where
  pub parsed_number : (r : Result ℕ E) → ParsesUnsigned 64 10 text r → 48 ≤ get_or word 0 0
      → (get_or word 0 0 ≡ 48 → length word ≡ 1) → IfSome (result_ok r) (λ n. (n < 2 ^ 64) × (word ≡ decimal n))
  parsed_number (Err e) parses low alone = tt
  parsed_number (Ok n) parses low alone =
      let own = numerals_by_value (λ ds. all_ascii_digits ds ≡ true) tells_all_ascii_digits in
      let of_word : ParsesUnsigned {E = E} 64 10 word (Ok n) =
      subst (λ (bs : List ℕ). ParsesUnsigned {E = E} 64 10 bs (Ok n)) same parses in
      let plain = parse_plain own {E = E} 64 word (Ok n) of_word (omega arith) in
      let printed = decimal-digits_value own word plain.0.0 plain.0.1 alone plain.0.2 in
      (omega (arith, plain.1, plain.0.2), sym printed ∙ ap decimal (sym plain.1))

  pub number_is_parsed : (r : Result ℕ E) (n : ℕ) → ParsesUnsigned 64 10 text r → n < 2 ^ 64 → word ≡ decimal n
      → result_ok r ≡ Some n
  number_is_parsed r n parses fits spelled = ap result_ok (parse-decimal 64 n text r fits fits (same ∙ spelled) parses)

ascii_word : (word : List ℕ) → All IsNameByte word → All (λ byte. byte < 128) word
ascii_word word all k d below = ascii_byte (get_or word k d) (all k d below) where
  ascii_byte : (byte : ℕ) → IsNameByte byte → byte < 128
  ascii_byte byte is = grind arith

pub name_is_text : (word : List ℕ) → IsNameWord word → IsUtf8 word
name_is_text word is = IsUtf8-from_ascii word (IsAscii-from_all word (ascii_word word is.bytes))

is_low : (byte : ℕ) → nat_lt byte 128 ≡ true → byte < 128
is_low byte passes = grind (arith, nat_tests)

ascii_text : (word : List ℕ) → list_all (λ byte. nat_lt byte 128) word ≡ true → IsUtf8 word
ascii_text word passes =
    IsUtf8-from_ascii word
    (IsAscii-from_all word (all_tested (λ byte. nat_lt byte 128) (λ byte. byte < 128) is_low word passes))

pub roll_is_text : (word : List ℕ) (roll : Roll) → word ≡ roll_word roll → IsUtf8 word
roll_is_text word roll spelled = subst IsUtf8 (sym spelled) (word_is_text roll) where
  word_is_text : (roll : Roll) → IsUtf8 (roll_word roll)
  word_is_text Daily = ascii_text (roll_word Daily) refl
  word_is_text roll = ascii_text (roll_word roll) refl
