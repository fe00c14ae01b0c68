-- What the getters give, by the rows of the matches.
use Rattle.std.proofs.Common.{◌≡◌, ◌∙◌, ℕ, List, [], map, Option, Some, None, Result, Ok, option_map, unwrap_or, refl, sym, ap, subst}
use Rattle.std.specs.Borrow.{Bor}
use Rattle.std.specs.Str.Parse.{IsNumeral, digits_value, without_leading_plus}
use Rattle.clap.specs.Words.{ReadsOne, Text, all_of, first_of, first_value, matched_of, raw_values, rows_of}
use Rattle.clap.specs.declared.parser.matches.Found.{Found}
use Rattle.clap.proofs.WalkLemmas.{first_value-rows, raw_values-rows}

-- a word that was found, or none
pub word_found : (found : Found) (name : Text) (r : Option (Bor Text)) (given : Bor Text) (text : Text)
    → option_map (λ s. s.now) r ≡ first_value found name → r ≡ Some given → text ≡ given.now → Some text ≡ first_of name (rows_of found)
word_found found name r given text reads is same =
    ap Some same ∙ ap (option_map (λ s. s.now)) (sym is) ∙ reads ∙ first_value-rows found name

pub no_word_found : (found : Found) (name : Text) (r : Option (Bor Text)) → option_map (λ s. s.now) r ≡ first_value found name → r ≡ None
    → None ≡ first_of name (rows_of found)
no_word_found found name r reads is = ap (option_map (λ s. s.now)) (sym is) ∙ reads ∙ first_value-rows found name

-- all words that were found, or none
pub words_found : (found : Found) (name : Text) (r : Option (Bor (List (Bor Text)))) (given : Bor (List (Bor Text))) (words : List Text)
    → option_map (λ s. map (λ v. v.now) s.now) r ≡ option_map raw_values (matched_of found name) → r ≡ Some given → words ≡ map (λ v. v.now) given.now
    → words ≡ unwrap_or (all_of name (rows_of found)) []
words_found found name r given words reads is same =
    same ∙ ap (λ o. unwrap_or o []) (ap (option_map (λ s. map (λ v. v.now) s.now)) (sym is) ∙ reads ∙ raw_values-rows found name)

pub no_words_found : (found : Found) (name : Text) (r : Option (Bor (List (Bor Text))))
    → option_map (λ s. map (λ v. v.now) s.now) r ≡ option_map raw_values (matched_of found name) → r ≡ None → [] ≡ unwrap_or (all_of name (rows_of found)) []
no_words_found found name r reads is =
    ap (λ o. unwrap_or o []) (ap (option_map (λ s. map (λ v. v.now) s.now)) (sym is) ∙ reads ∙ raw_values-rows found name)

-- a number that was read is the one that a word writes
pub number_read : {E : Type 0} (gives : Text → Result ℕ E → Type 0) (one : Option Text) (r : Option ℕ) (given : ℕ)
    → ((word : Text) → gives word (Ok given) → IsNumeral 10 (without_leading_plus word) × (given ≡ digits_value 10 (without_leading_plus word)))
    → (one ≡ None → r ≡ None) → ((word : Text) → one ≡ Some word → ReadsOne gives word r) → r ≡ Some given
    → (word : Text) × (one ≡ Some word) × IsNumeral 10 (without_leading_plus word) × (given ≡ digits_value 10 (without_leading_plus word))
number_read gives None r given value none some is = let missing = none refl in absurd (cc)
number_read gives (Some word) r given value none some is =
    let reads = value word (subst (ReadsOne gives word) is (some word refl)) in
    (word, refl, reads.0, reads.1)
