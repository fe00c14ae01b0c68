-- Lines of words, and which forms they have.
use Rattle.std.proofs.Common.{◌≡◌, ◌==◌, ℕ, ◌<◌, ◌≤◌, ◌^◌, List, [], ◌∷◌, All, length, get_or, refl, ap, sym, ◌∙◌, subst, arith, inl, inr, Bool, false, true, ◌&&◌, ◌||◌, nat_lt, Option, Some, None, is_some, IfSome, IsSome, codes}
use Rattle.std.proofs.lemmas.Bool.Decides.{nat_tests}
use Rattle.std.proofs.lemmas.Fmt.{decimal_is_IsNumeral}
use Rattle.std.proofs.lemmas.List.{get_or_default}
use Rattle.std.proofs.lemmas.List.Splits.{join_with_byte-slice_split, length-slice_split, slice_split_none}
use Rattle.std.proofs.lemmas.Slice.Eq.{bytes_eq-Decides}
use Rattle.std.proofs.lemmas.Str.Parse.{digit_at}
use Rattle.std.specs.Cmp.Lexicographic.{pointwise}
use Rattle.std.specs.Fmt.{decimal}
use Rattle.std.specs.List.{join_with_byte, list_all, list_any, slice_split}
use Rattle.std.specs.Str.{bytes_eq}
use Rattle.std.specs.Str.Parse.{digits_value}
use Rattle.cq_cycle.specs.RollWord.{roll_word}
use Rattle.cq_cycle.specs.declared.roll.Roll.{Roll}
use Rattle.cq_cycle.specs.declared.roll.Roll.TheVariants.{Daily}
use Rattle.cq_cycle.specs.declared.roll.TheConstants.{ROLLS}
use Rattle.cq_model.specs.Settings.{IsNameByte}
use Rattle.cq_config_text.specs.ConfigText.{Form, IsNameWord, has_form, is_name, is_name_byte, is_number, is_positive, is_roll, is_version}
use Rattle.cq_layout.specs.Version.{version_word}
use Rattle.cq_layout.specs.declared.version.FolderVersion.{FolderVersion}
use Rattle.cq_layout.specs.declared.version.FolderVersion.TheVariants.{First, Second}
use Rattle.cq_config_text.proofs.CutLemmas.{IsFree, all_pass, all_tested, and_false, and_is_true, and_true, not_equal, or_true}

-- the words of a line
abbrev pub words_in : List ℕ → List (List ℕ)
words_in = slice_split (λ byte. byte == 32)

-- no space and no line feed is in the word
abbrev pub IsPrinted : List ℕ → Type 0
IsPrinted = All (λ byte. 32 < byte)

pub printed_free : (mark : ℕ) (word : List ℕ) → mark ≤ 32 → IsPrinted word → IsFree mark word
printed_free mark word low printed k d below =
    not_equal (get_or word k d) mark (λ same. absurd (omega (arith, printed k d below)))

is_printed : (byte : ℕ) → nat_lt 32 byte ≡ true → 32 < byte
is_printed byte passes = grind (arith, nat_tests)

-- a word that computes
pub text_printed : (word : List ℕ) → list_all (λ byte. nat_lt 32 byte) word ≡ true → IsPrinted word
text_printed word passes = all_tested (λ byte. nat_lt 32 byte) (λ byte. 32 < byte) is_printed word passes

pub decimal_printed : (n : ℕ) → n < 2 ^ 64 → IsPrinted (decimal n)
decimal_printed n fits k d below =
    let digit = digit_at (decimal n) k (decimal_is_IsNumeral n fits).0.1 below in
    omega (arith, digit, get_or_default (decimal n) k d 0 below)

pub name_printed : (word : List ℕ) → IsNameWord word → IsPrinted word
name_printed word is k d below = high (get_or word k d) (is.bytes k d below) where
  high : (byte : ℕ) → IsNameByte byte → 32 < byte
  high byte is = grind arith

pub roll_printed : (roll : Roll) → IsPrinted (roll_word roll)
roll_printed Daily = text_printed (roll_word Daily) refl
roll_printed roll = text_printed (roll_word roll) refl

pub version_printed : (version : FolderVersion) → IsPrinted (version_word version)
version_printed First = text_printed (codes "1") refl
version_printed Second = text_printed (codes "2") refl

-- the tests of words
pub number_tested : (word : List ℕ) → is_number word ≡ true → (n : ℕ) × (n < 2 ^ 64) × (word ≡ decimal n)
number_tested word passes =
    let both = and_true (nat_lt (digits_value 10 word) (2 ^ 64)) (bytes_eq word (decimal (digits_value 10 word))) passes in
    let fits : digits_value 10 word < 2 ^ 64 = grind (arith, nat_tests) in
    (digits_value 10 word, fits, (bytes_eq-Decides word (decimal (digits_value 10 word))).0 both.1)

decimal_passes : (n : ℕ) → n < 2 ^ 64 → is_number (decimal n) ≡ true
decimal_passes n fits =
    let value : digits_value 10 (decimal n) ≡ n = (decimal_is_IsNumeral n fits).1 in
    let low : nat_lt n (2 ^ 64) ≡ true = grind (arith, nat_tests) in
    let same : bytes_eq (decimal n) (decimal n) ≡ true = (bytes_eq-Decides (decimal n) (decimal n)).1 refl in
    rw (value, low) same

pub number_passes : (word : List ℕ) (n : ℕ) → n < 2 ^ 64 → word ≡ decimal n → is_number word ≡ true
number_passes word n fits spelled = ap is_number spelled ∙ decimal_passes n fits

pub positive_tested : (word : List ℕ) → is_positive word ≡ true → (n : ℕ) × (0 < n) × (n < 2 ^ 64) × (word ≡ decimal n)
positive_tested word passes =
    let both = and_true (nat_lt 0 (digits_value 10 word)) (is_number word) passes in
    let number = number_tested word both.1 in
    let some : 0 < digits_value 10 word = let low = both.0 in grind (arith, nat_tests) in
    let value : digits_value 10 word ≡ number.0 =
    ap (digits_value 10) number.2 ∙ (decimal_is_IsNumeral number.0 number.1).1 in
    (number.0, omega (arith, some, value), number.1, number.2)

pub positive_passes : (word : List ℕ) (n : ℕ) → 0 < n → n < 2 ^ 64 → word ≡ decimal n → is_positive word ≡ true
positive_passes word n some fits spelled =
    let value : digits_value 10 word ≡ n = ap (digits_value 10) spelled ∙ (decimal_is_IsNumeral n fits).1 in
    let high : 0 < digits_value 10 word = omega (arith, some, value) in
    let first : nat_lt 0 (digits_value 10 word) ≡ true = grind (arith, nat_tests) in
    ap (λ b. b && is_number word) first ∙ number_passes word n fits spelled

pub roll_tested : (word : List ℕ) → is_roll word ≡ true → (roll : Roll) × (word ≡ roll_word roll)
roll_tested word passes =
    one_of ROLLS passes
  where
    one_of : (rolls : List Roll) → list_any (λ roll. bytes_eq word (roll_word roll)) rolls ≡ true
        → (roll : Roll) × (word ≡ roll_word roll)
    one_of [] passes = absurd (cc)
    one_of (roll ∷ rolls) passes =
        elim (or_true (bytes_eq word (roll_word roll)) (list_any (λ roll. bytes_eq word (roll_word roll)) rolls) passes) [
          | inl is ↦ (roll, (bytes_eq-Decides word (roll_word roll)).0 is)
          | inr other ↦ one_of rolls other
        ]

roll_word_passes : (roll : Roll) → is_roll (roll_word roll) ≡ true
roll_word_passes Daily = refl
roll_word_passes _ = refl

pub roll_passes : (word : List ℕ) (roll : Roll) → word ≡ roll_word roll → is_roll word ≡ true
roll_passes word roll spelled = ap is_roll spelled ∙ roll_word_passes roll

version_tested : (word : List ℕ) → is_version word ≡ true → (version : FolderVersion) × (word ≡ version_word version)
version_tested word passes =
    elim (or_true (bytes_eq word (codes "1")) (bytes_eq word (codes "2") || false) passes) [
      | inl one ↦ (First, (bytes_eq-Decides word (codes "1")).0 one)
      | inr other ↦ elim (or_true (bytes_eq word (codes "2")) false other) [
        | inl two ↦ (Second, (bytes_eq-Decides word (codes "2")).0 two)
        | inr none ↦ absurd (cc)
      ]
    ]

version_word_passes : (version : FolderVersion) → is_version (version_word version) ≡ true
version_word_passes First = refl
version_word_passes Second = refl

pub version_passes : (word : List ℕ) (version : FolderVersion) → word ≡ version_word version → is_version word ≡ true
version_passes word version spelled = ap is_version spelled ∙ version_word_passes version

byte_tested : (byte : ℕ) → is_name_byte byte ≡ true → IsNameByte byte
byte_tested byte passes = grind (arith, nat_tests)

byte_passes : (byte : ℕ) → IsNameByte byte → is_name_byte byte ≡ true
byte_passes byte is = grind (arith, nat_tests)

pub name_tested : (word : List ℕ) → is_name word ≡ true → IsNameWord word
name_tested word passes =
    let both = and_true (nat_lt 0 (length word)) (list_all is_name_byte word) passes in
    record { some = grind (arith, nat_tests); bytes = all_tested is_name_byte IsNameByte byte_tested word both.1 }

pub name_passes : (word : List ℕ) → IsNameWord word → is_name word ≡ true
name_passes word is =
    let some : nat_lt 0 (length word) ≡ true = let low = is.some in grind (arith, nat_tests) in
    rw some (all_pass is_name_byte IsNameByte byte_passes word is.bytes)

-- a line that is cut at its first space
module _ (line first rest : List ℕ) (parts : words_in line ≡ first ∷ words_in rest) where
  pub form_of_cut : (test : List ℕ → Bool) (tests : Form) → has_form (test ∷ tests) line ≡ (test first && has_form tests rest)
  unfolding has_form
  form_of_cut test tests = ap (pointwise (λ (test : List ℕ → Bool) word. test word) (test ∷ tests)) parts

  -- the first word is the wanted one, or another
  pub form_behind : (key : List ℕ) → bytes_eq key first ≡ true → (tests : Form)
      → has_form (bytes_eq key ∷ tests) line ≡ has_form tests rest
  form_behind key same tests = form_of_cut (bytes_eq key) tests ∙ ap (λ b. b && has_form tests rest) same

  pub form_of_other : (key : List ℕ) → bytes_eq key first ≡ false → (tests : Form)
      → has_form (bytes_eq key ∷ tests) line ≡ false
  form_of_other key other tests = form_of_cut (bytes_eq key) tests ∙ ap (λ b. b && has_form tests rest) other

-- a line of one word
pub form_of_word : (line : List ℕ) → words_in line ≡ line ∷ [] → (test next : List ℕ → Bool) (tests : Form)
    → has_form (test ∷ next ∷ tests) line ≡ false
unfolding has_form
form_of_word line parts test next tests =
    ap (pointwise (λ (test : List ℕ → Bool) word. test word) (test ∷ next ∷ tests)) parts ∙ and_false (test line)

-- the last word holds no space, where the test wants none
module _ (test : List ℕ → Bool) (free : (word : List ℕ) → test word ≡ true → IsFree 32 word) (word : List ℕ) where
  abbrev passes : List (List ℕ) → Bool
  passes = pointwise (λ (test : List ℕ → Bool) word. test word) (test ∷ [])

  fails : (b : Bool) → test word ≡ b → (one two : List ℕ) (more : List (List ℕ)) → words_in word ≡ one ∷ two ∷ more → false ≡ b
  fails false is one two more parts = refl
  fails true is one two more parts =
      let whole = slice_split_none (λ byte. byte == 32) word (free word is) in
      let clash : one ∷ two ∷ more ≡ word ∷ [] = sym parts ∙ whole in
      absurd (cc)

  of_parts : (parts : List (List ℕ)) → words_in word ≡ parts → passes parts ≡ test word
  of_parts [] is = absurd (omega (arith, ap length is, length-slice_split (λ byte. byte == 32) word))
  of_parts (one ∷ []) is =
      let same : one ≡ word = sym (ap (join_with_byte 32) is) ∙ join_with_byte-slice_split 32 word in
      and_is_true (test one) ∙ ap test same
  of_parts (one ∷ two ∷ more) is = and_false (test one) ∙ fails (test word) refl one two more is

  pub form_of_last : has_form (test ∷ []) word ≡ test word
  unfolding has_form
  form_of_last = of_parts (words_in word) refl

-- whether a word has a value is told by its test
module _ {X : Type 0} (P : X → Type 0) (test : Bool) (passes : (x : X) → P x → test ≡ true) where
  pub test_of_found : (r : Option X) → IfSome r P → (test ≡ true → IsSome r) → is_some r ≡ test
  test_of_found (Some x) found only = sym (passes x found)
  test_of_found None found only = none_fails test only where
    none_fails : (b : Bool) → (b ≡ true → IsSome {T = X} None) → false ≡ b
    none_fails false only = refl
    none_fails true only = only refl

some_is : {X : Type 0} (r : Option X) (x : X) → r ≡ Some x → IsSome r
some_is r x is = ap is_some is

number_free : (word : List ℕ) → is_number word ≡ true → IsFree 32 word
number_free word passes =
    let number = number_tested word passes in
    subst (IsFree 32) (sym number.2) (printed_free 32 (decimal number.0) (omega arith) (decimal_printed number.0 number.1))

positive_free : (word : List ℕ) → is_positive word ≡ true → IsFree 32 word
positive_free word passes =
    number_free word (and_true (nat_lt 0 (digits_value 10 word)) (is_number word) passes).1

roll_free : (word : List ℕ) → is_roll word ≡ true → IsFree 32 word
roll_free word passes =
    let roll = roll_tested word passes in
    subst (IsFree 32) (sym roll.1) (printed_free 32 (roll_word roll.0) (omega arith) (roll_printed roll.0))

version_free : (word : List ℕ) → is_version word ≡ true → IsFree 32 word
version_free word passes =
    let version = version_tested word passes in
    subst (IsFree 32) (sym version.1) (printed_free 32 (version_word version.0) (omega arith) (version_printed version.0))

-- the forms of one last word
pub form_of_number : (word : List ℕ) → has_form (is_number ∷ []) word ≡ is_number word
form_of_number = form_of_last is_number number_free

pub form_of_positive : (word : List ℕ) → has_form (is_positive ∷ []) word ≡ is_positive word
form_of_positive = form_of_last is_positive positive_free

pub form_of_roll : (word : List ℕ) → has_form (is_roll ∷ []) word ≡ is_roll word
form_of_roll = form_of_last is_roll roll_free

form_of_version : (word : List ℕ) → has_form (is_version ∷ []) word ≡ is_version word
form_of_version = form_of_last is_version version_free

-- what reads a number, one of at least 1, a roll or a name finds one exactly where the test passes
pub number_found : (word : List ℕ) (r : Option ℕ) → IfSome r (λ n. (n < 2 ^ 64) × (word ≡ decimal n))
    → ((n : ℕ) → n < 2 ^ 64 → word ≡ decimal n → r ≡ Some n) → is_some r ≡ has_form (is_number ∷ []) word
number_found word r found only =
    test_of_found (λ n. (n < 2 ^ 64) × (word ≡ decimal n)) (is_number word)
    (λ n is. number_passes word n is.0 is.1) r found
    (λ passes. let number = number_tested word passes in some_is r number.0 (only number.0 number.1 number.2))
    ∙ sym (form_of_number word)

pub positive_found : (word : List ℕ) (r : Option ℕ)
    → IfSome r (λ n. (0 < n) × (n < 2 ^ 64) × (word ≡ decimal n))
    → ((n : ℕ) → 0 < n → n < 2 ^ 64 → word ≡ decimal n → r ≡ Some n) → is_some r ≡ has_form (is_positive ∷ []) word
positive_found word r found only =
    test_of_found (λ n. (0 < n) × (n < 2 ^ 64) × (word ≡ decimal n)) (is_positive word)
    (λ n is. positive_passes word n is.0 is.1 is.2) r found
    (λ passes. let number = positive_tested word passes in some_is r number.0 (only number.0 number.1 number.2 number.3))
    ∙ sym (form_of_positive word)

pub roll_found : (word : List ℕ) (r : Option Roll) → IfSome r (λ roll. word ≡ roll_word roll)
    → ((roll : Roll) → word ≡ roll_word roll → r ≡ Some roll) → is_some r ≡ has_form (is_roll ∷ []) word
roll_found word r found only =
    test_of_found (λ roll. word ≡ roll_word roll) (is_roll word) (λ roll is. roll_passes word roll is) r found
    (λ passes. let roll = roll_tested word passes in some_is r roll.0 (only roll.0 roll.1))
    ∙ sym (form_of_roll word)

pub version_found : (word : List ℕ) (r : Option FolderVersion) → IfSome r (λ version. word ≡ version_word version)
    → ((version : FolderVersion) → word ≡ version_word version → r ≡ Some version)
    → is_some r ≡ has_form (is_version ∷ []) word
version_found word r found only =
    test_of_found (λ version. word ≡ version_word version) (is_version word)
    (λ version is. version_passes word version is) r found
    (λ passes. let version = version_tested word passes in some_is r version.0 (only version.0 version.1))
    ∙ sym (form_of_version word)

pub name_fails : (word : List ℕ) → (IsNameWord word → false ≡ true) → is_name word ≡ false
name_fails word never = fails (is_name word) refl where
  fails : (b : Bool) → is_name word ≡ b → b ≡ false
  fails false is = refl
  fails true is = sym (never (name_tested word is))

-- the words of a name and of its position
pub declared_form : (words name position : List ℕ) → words_in words ≡ name ∷ words_in position → (named placed : Bool)
    → is_name name ≡ named → has_form (is_number ∷ []) position ≡ placed
    → (named && placed) ≡ has_form (is_name ∷ is_number ∷ []) words
declared_form words name position parts named placed is_named is_placed =
    sym (form_of_cut words name position parts is_name (is_number ∷ [])
    ∙ ap (λ b. b && has_form (is_number ∷ []) position) is_named ∙ ap (λ b. named && b) is_placed)
