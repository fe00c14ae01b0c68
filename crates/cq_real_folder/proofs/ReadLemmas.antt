-- What the text of a record reads back as.
use Rattle.std.proofs.Common.{◌≡◌, ◌≢◌, ◌+◌, ◌-◌, ◌<◌, ◌≤◌, ◌^◌, ◌++◌, ◌∷◌, ◌∙◌, [], ℕ, suc, zero, Bor, Global, List, Some, String, ap, append_assoc, arith, codes, drop, get_or, inl, inr, length, length-append, map, nat_lt, refl, string_bytes, subst, sym, take, true}
use Rattle.std.proofs.Math.Seq.{get_or-append_seam}
use Rattle.std.proofs.lemmas.Bool.Decides.{Decides-eqb, nat_tests}
use Rattle.std.proofs.lemmas.Fmt.{IsAscii-decimal, decimal_is_IsNumeral}
use Rattle.std.proofs.lemmas.Grind.{flat_map-append}
use Rattle.std.proofs.lemmas.List.{append_cancel_left, get_or_default}
use Rattle.std.proofs.lemmas.List.Concat.{flat_map-cons}
use Rattle.std.proofs.lemmas.List.Elements.{All-tail}
use Rattle.std.proofs.lemmas.List.Folds.{flat_map-map}
use Rattle.std.proofs.lemmas.List.Sums.{AllPass-from_list_all}
use Rattle.std.proofs.lemmas.Slice.Eq.{ends_is}
use Rattle.std.proofs.lemmas.Str.{IsUtf8-append, IsUtf8-from_ascii, IsUtf8-nil, IsUtf8-string_bytes}
use Rattle.std.proofs.lemmas.Str.Ascii.{IsAscii-from_all}
use Rattle.std.proofs.lemmas.Str.Parse.{digit_at}
use Rattle.std.proofs.lemmas.Str.Pattern.{IsSplitOnceResult, split_after}
use Rattle.std.specs.Fmt.{decimal}
use Rattle.std.specs.List.{flat_map, list_all}
use Rattle.std.specs.Str.{IsUtf8}
use Rattle.cq_folder.specs.declared.names.TheConstants.{IMAGE_ENDING}
use Rattle.cq_real_folder.specs.Record.{AreFileNames, BeginsWithNoName, IsFileName, form_of, name_text, record_head, record_lines, record_text, removal_text}

-- no byte ends a line
abbrev pub IsOneLine : List ℕ → Type 0
IsOneLine line = (k : ℕ) → k < length line → get_or line k 0 ≢ 10

-- a name that a record can have is one line, of four bytes at least
pub one_line : (name : List ℕ) → IsFileName name → IsOneLine name
one_line name is k below same = is.2 (k, below, get_or_default name k 10 0 below ∙ same)

long_name : (name : List ℕ) → IsFileName name → 4 ≤ length name
long_name name (inl is, _, _) = let size : length name ≡ 9 = ap length is in omega (arith, size)
long_name name (inr (inl is), _, _) = let size : length name ≡ 9 = ap length is in omega (arith, size)
long_name name (inr (inr is), _, _) =
    let front = take (length name - 4) name in
    let whole : name ≡ front ++ IMAGE_ENDING.now = (ends_is Decides-eqb name IMAGE_ENDING.now true (sym is)).0 refl in
    let size : length name ≡ length front + 4 = ap length whole ∙ length-append front IMAGE_ENDING.now in
    omega (arith, size)

number_line : (number : ℕ) → number < 2 ^ 32 → IsOneLine (decimal number)
number_line number low k below same =
    let numeral = (decimal_is_IsNumeral number (omega (arith, low))).0 in
    let digit = digit_at (decimal number) k numeral.1 below in
    omega (arith, digit.0, same)

-- texts that are the same have the same first line
pub line_cut : (line other after rest : List ℕ) → IsOneLine line → IsOneLine other → line ++ 10 ∷ after ≡ other ++ 10 ∷ rest
    → (line ≡ other) × (after ≡ rest)
line_cut [] [] after rest one two same = (refl, ap (λ (bytes : List ℕ). drop 1 bytes) same)
line_cut [] (byte ∷ other) after rest one two same =
    absurd (two 0 (omega arith) (sym (ap (λ (bytes : List ℕ). get_or bytes 0 0) same)))
line_cut (byte ∷ line) [] after rest one two same =
    absurd (one 0 (omega arith) (ap (λ (bytes : List ℕ). get_or bytes 0 0) same))
line_cut (byte ∷ line) (first ∷ other) after rest one two same =
    let begins : byte ≡ first = ap (λ (bytes : List ℕ). get_or bytes 0 0) same in
    let more = line_cut line other after rest (λ k below. one (suc k) (omega (arith, below))) (λ k below. two (suc k) (omega (arith, below)))
    (ap (λ (bytes : List ℕ). drop 1 bytes) same) in
    (ap (λ (next : ℕ). next ∷ line) begins ∙ ap (λ (bytes : List ℕ). first ∷ bytes) more.0, more.1)

name_text-cons : (name : String Global) (names : List (String Global)) → name_text (name ∷ names) ≡ string_bytes name ++ 10 ∷ name_text names
name_text-cons name names =
    flat_map-cons (λ (next : String Global). string_bytes next ++ 10 ∷ []) name names
    ∙ append_assoc (string_bytes name) (10 ∷ []) (name_text names)

names_then : (name : String Global) (names : List (String Global)) (rest : List ℕ)
    → name_text (name ∷ names) ++ rest ≡ string_bytes name ++ 10 ∷ (name_text names ++ rest)
names_then name names rest =
    ap (λ (bytes : List ℕ). bytes ++ rest) (name_text-cons name names) ∙ append_assoc (string_bytes name) (10 ∷ name_text names) rest

-- one more line is a name
pub one_more_name : (text : List ℕ) (names : List (String Global)) (name : String Global) (line rest after : List ℕ)
    → text ≡ name_text names ++ rest → rest ≡ line ++ 10 ∷ after → string_bytes name ≡ line
    → text ≡ name_text (names ++ name ∷ []) ++ after
one_more_name text names name line rest after so_far is spelled =
    let last : name_text (name ∷ []) ++ after ≡ rest =
    names_then name [] after ∙ ap (λ (bytes : List ℕ). bytes ++ 10 ∷ after) spelled ∙ sym is in
    so_far ∙ ap (λ (bytes : List ℕ). name_text names ++ bytes) (sym last)
    ∙ sym (append_assoc (name_text names) (name_text (name ∷ [])) after)
    ∙ ap (λ (bytes : List ℕ). bytes ++ after)
    (sym (flat_map-append (λ (next : String Global). string_bytes next ++ 10 ∷ []) names (name ∷ [])))

-- a text is read as names in one way
pub one_reading : (names others : List (String Global)) (rest left : List ℕ) → AreFileNames names → AreFileNames others
    → BeginsWithNoName rest → BeginsWithNoName left → name_text names ++ rest ≡ name_text others ++ left
    → (map string_bytes names ≡ map string_bytes others) × (rest ≡ left)
one_reading [] [] rest left are too ended over same = (refl, same)
one_reading [] (other ∷ others) rest left are too ended over same =
    absurd (ended (string_bytes other) (name_text others ++ left) (too 0 other (omega arith)) (same ∙ names_then other others left))
one_reading (name ∷ names) [] rest left are too ended over same =
    absurd (over (string_bytes name) (name_text names ++ rest) (are 0 name (omega arith)) (sym same ∙ names_then name names rest))
one_reading (name ∷ names) (other ∷ others) rest left are too ended over same =
    let P : String Global → Type 0 = λ next. IsFileName (string_bytes next) in
    let cut = line_cut (string_bytes name) (string_bytes other) (name_text names ++ rest) (name_text others ++ left)
    (one_line (string_bytes name) (are 0 name (omega arith))) (one_line (string_bytes other) (too 0 other (omega arith)))
    (sym (names_then name names rest) ∙ same ∙ names_then other others left) in
    let more = one_reading names others rest left (All-tail P name names are) (All-tail P other others too) ended over cut.1 in
    (ap (λ (first : List ℕ). first ∷ map string_bytes names) cut.0 ∙ ap (λ (all : List (List ℕ)). string_bytes other ∷ all) more.0, more.1)

-- a line that is no name
pub line_no_name : (line after : List ℕ) → IsOneLine line → ¬ IsFileName line → BeginsWithNoName (line ++ 10 ∷ after)
line_no_name line after one none name more is same =
    none (subst IsFileName (sym (line_cut line name after more one (one_line name is) same).0) is)

-- a text without a line feed has no line
pub no_line_no_name : (text : List ℕ) → IsOneLine text → BeginsWithNoName text
no_line_no_name text one name more is same =
    let size = length-append name (10 ∷ more) in
    one (length name) (omega (arith, ap length same, size))
    (ap (λ (bytes : List ℕ). get_or bytes (length name) 0) same ∙ get_or-append_seam name 10 more 0)

short_line : (line after : List ℕ) → IsOneLine line → length line < 4 → BeginsWithNoName (line ++ 10 ∷ after)
short_line line after one short = line_no_name line after one (λ is. let long = long_name line is in omega (arith, long, short))

empty_one_line : IsOneLine []
empty_one_line k below = absurd (omega (arith, below))

last_one_line : IsOneLine (codes "end")
last_one_line zero below same = absurd (omega (arith, same))
last_one_line (suc zero) below same = absurd (omega (arith, same))
last_one_line (suc (suc zero)) below same = absurd (omega (arith, same))
last_one_line (suc (suc (suc k))) below same = absurd (omega (arith, below))

-- the names end before an empty line, and before the last line
pub ends_no_name : BeginsWithNoName (codes "end\n")
ends_no_name = short_line (codes "end") [] last_one_line (omega arith)

pub removals_no_name : (removed : List (String Global)) → BeginsWithNoName (removal_text removed ++ codes "end\n")
removals_no_name [] = ends_no_name
removals_no_name (name ∷ removed) = short_line [] (name_text (name ∷ removed) ++ codes "end\n") empty_one_line (omega arith)

-- the text of a record depends on the bytes of the names alone
same_names : (names others : List (String Global)) → map string_bytes names ≡ map string_bytes others → name_text names ≡ name_text others
same_names names others same =
    let h : List ℕ → List ℕ = λ bytes. bytes ++ 10 ∷ [] in
    sym (flat_map-map h string_bytes names) ∙ ap (flat_map h) same ∙ flat_map-map h string_bytes others

same_form : (removed others : List (String Global)) → map string_bytes removed ≡ map string_bytes others → form_of removed ≡ form_of others
same_form [] [] same = refl
same_form [] (other ∷ others) same = let size = ap length same in absurd (omega (arith, size))
same_form (name ∷ removed) [] same = let size = ap length same in absurd (omega (arith, size))
same_form (name ∷ removed) (other ∷ others) same = refl

same_removals : (removed others : List (String Global)) → map string_bytes removed ≡ map string_bytes others
    → removal_text removed ≡ removal_text others
same_removals [] [] same = refl
same_removals [] (other ∷ others) same = let size = ap length same in absurd (omega (arith, size))
same_removals (name ∷ removed) [] same = let size = ap length same in absurd (omega (arith, size))
same_removals (name ∷ removed) (other ∷ others) same =
    ap (λ (bytes : List ℕ). 10 ∷ bytes) (same_names (name ∷ removed) (other ∷ others) same)

pub same_text : (process other : ℕ) (names others removed left : List (String Global)) → process ≡ other
    → map string_bytes names ≡ map string_bytes others → map string_bytes removed ≡ map string_bytes left
    → record_text process names removed ≡ record_text other others left
same_text process other names others removed left same_number same same_left =
    ap (λ (number : ℕ). record_text number names removed) same_number
    ∙ ap (λ (form : ℕ). record_head form other ++ record_lines names removed) (same_form removed left same_left)
    ∙ ap (λ (text : List ℕ). record_head (form_of left) other ++ (text ++ (removal_text removed ++ codes "end\n"))) (same_names names others same)
    ∙ ap (λ (text : List ℕ). record_head (form_of left) other ++ (name_text others ++ (text ++ codes "end\n")))
    (same_removals removed left same_left)

ascii_text : (bytes : List ℕ) → list_all (λ byte. nat_lt byte 128) bytes ≡ true → IsUtf8 bytes
ascii_text bytes passes =
    let each = AllPass-from_list_all (λ byte. nat_lt byte 128) bytes passes in
    IsUtf8-from_ascii bytes
    (IsAscii-from_all bytes (λ k d below. let low = each k d below in grind (arith, nat_tests)))

names_are_text : (names : List (String Global)) → IsUtf8 (name_text names)
names_are_text [] = IsUtf8-nil
names_are_text (name ∷ names) =
    subst IsUtf8 (sym (name_text-cons name names))
    (IsUtf8-append (string_bytes name) (10 ∷ name_text names) (IsUtf8-string_bytes name)
    (IsUtf8-append (10 ∷ []) (name_text names) (ascii_text (10 ∷ []) refl) (names_are_text names)))

removals_are_text : (removed : List (String Global)) → IsUtf8 (removal_text removed)
removals_are_text [] = IsUtf8-nil
removals_are_text (name ∷ removed) =
    IsUtf8-append (10 ∷ []) (name_text (name ∷ removed)) (ascii_text (10 ∷ []) refl) (names_are_text (name ∷ removed))

number_is_text : (number : ℕ) → number < 2 ^ 32 → IsUtf8 (decimal number)
number_is_text number low = IsUtf8-from_ascii (decimal number) (IsAscii-decimal number (omega (arith, low)))

form_fits : (removed : List (String Global)) → form_of removed < 2 ^ 32
form_fits [] = omega arith
form_fits (name ∷ removed) = omega arith

module _ (process : ℕ) (names removed : List (String Global)) (number : process < 2 ^ 32) where
  abbrev form : List ℕ
  form = decimal (form_of removed)

  abbrev pub word : List ℕ
  word = decimal process

  abbrev lines : List ℕ
  lines = record_lines names removed

  abbrev pub process_and_lines : List ℕ
  process_and_lines = word ++ 10 ∷ lines

  -- the text of a record line by line
  text_is : record_text process names removed ≡ codes "cq save " ++ (form ++ 10 ∷ process_and_lines)
  text_is =
      ap (λ (bytes : List ℕ). codes "cq save " ++ bytes)
      (append_assoc form (10 ∷ (word ++ 10 ∷ [])) lines ∙ ap (λ (bytes : List ℕ). form ++ 10 ∷ bytes) (append_assoc word (10 ∷ []) lines))

  pub record_is_text : (text : List ℕ) → text ≡ record_text process names removed → IsUtf8 text
  record_is_text text is =
      subst IsUtf8 (sym (is ∙ text_is))
      (IsUtf8-append (codes "cq save ") (form ++ 10 ∷ process_and_lines) (ascii_text (codes "cq save ") refl)
      (IsUtf8-append form (10 ∷ process_and_lines) (number_is_text (form_of removed) (form_fits removed))
      (IsUtf8-append (10 ∷ []) process_and_lines (ascii_text (10 ∷ []) refl)
      (IsUtf8-append word (10 ∷ lines) (number_is_text process number)
      (IsUtf8-append (10 ∷ []) lines (ascii_text (10 ∷ []) refl)
      (IsUtf8-append (name_text names) (removal_text removed ++ codes "end\n") (names_are_text names)
      (IsUtf8-append (removal_text removed) (codes "end\n") (removals_are_text removed) (ascii_text (codes "end\n") refl))))))))

  -- what is left of it after its first word
  pub left_is : (text left rest : List ℕ) → text ≡ codes "cq save " ++ left → rest ≡ left → text ≡ record_text process names removed
      → rest ≡ form ++ 10 ∷ process_and_lines
  left_is text left rest begins is spelled =
      is ∙ append_cancel_left (codes "cq save ") left (form ++ 10 ∷ process_and_lines) (sym begins ∙ spelled ∙ text_is)

  pub form_line : IsOneLine form
  form_line = number_line (form_of removed) (form_fits removed)

  pub word_line : IsOneLine word
  word_line = number_line process number

  -- what follows the line with the form
  pub after_form : (text : List ℕ) (line rest : Bor (List ℕ)) → IsSplitOnceResult 10 text (Some (line, rest))
      → text ≡ form ++ 10 ∷ process_and_lines → rest.now ≡ process_and_lines
  after_form text line rest split is = (split_after 10 text form process_and_lines (Some (line, rest)) split (omega arith) is form_line).1

  -- the line with the process, and what follows it
  pub process_cut : (text : List ℕ) (line rest : Bor (List ℕ)) → IsSplitOnceResult 10 text (Some (line, rest))
      → text ≡ process_and_lines → (line.now ≡ word) × (rest.now ≡ lines)
  process_cut text line rest split is = split_after 10 text word lines (Some (line, rest)) split (omega arith) is word_line

-- what is read of the removals
pub removed_read : (removed found : List (String Global)) (text lines rest : List ℕ) → AreFileNames removed → AreFileNames found
    → BeginsWithNoName rest → text ≡ 10 ∷ lines → lines ≡ name_text found ++ rest → text ≡ removal_text removed ++ codes "end\n"
    → map string_bytes found ≡ map string_bytes removed
removed_read [] found text lines rest are too none begins all spelled =
    let first : 10 ≡ 101 = ap (λ (bytes : List ℕ). get_or bytes 0 0) (sym begins ∙ spelled) in
    absurd (omega (arith, first))
removed_read (name ∷ removed) found text lines rest are too none begins all spelled =
    let same : lines ≡ name_text (name ∷ removed) ++ codes "end\n" = ap (λ (bytes : List ℕ). drop 1 bytes) (sym begins ∙ spelled) in
    (one_reading found (name ∷ removed) rest (codes "end\n") too are none ends_no_name (sym all ∙ same)).0

pub none_read : (removed : List (String Global)) (text : List ℕ) → ((rest : List ℕ) → text ≢ 10 ∷ rest)
    → text ≡ removal_text removed ++ codes "end\n" → [] ≡ map string_bytes removed
none_read [] text none spelled = refl
none_read (name ∷ removed) text none spelled = absurd (none (name_text (name ∷ removed) ++ codes "end\n") spelled)
