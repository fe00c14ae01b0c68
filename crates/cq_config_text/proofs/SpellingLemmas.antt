-- Lines of printed words: they are read as they were written.
use Rattle.std.proofs.Common.{◌≡◌, ◌==◌, ℕ, ◌+◌, ◌<◌, ◌^◌, List, [], ◌∷◌, ◌++◌, get_or, drop, refl, ap, sym, ◌∙◌, arith, append_assoc, append-nil, cond, map, Bool, true, false, codes}
use Rattle.std.proofs.lemmas.List.{append_cancel_right}
use Rattle.std.proofs.lemmas.List.Elements.{All-append, All-cons, All-head, All-tail}
use Rattle.std.proofs.lemmas.List.Splits.{slice_split_at, slice_split_none}
use Rattle.std.specs.Cmp.Lexicographic.{pointwise}
use Rattle.std.specs.Fmt.{decimal}
use Rattle.cq_model.specs.Settings.{Settings}
use Rattle.cq_config_text.specs.ConfigText.{AreWritableNames, Form, IsNameWord, IsWritable, fault_from, floor_lines, has_form, head_lines, line_at, line_of, lines_text, name_form, name_lines, name_words, setting_words}
use Rattle.cq_config_text.proofs.CutLemmas.{IsFree, equal}
use Rattle.cq_config_text.proofs.FaultLemmas.{fault_behind, lines_in}
use Rattle.cq_config_text.proofs.LineLemmas.{IsPrinted, decimal_printed, name_printed, printed_free, roll_printed, text_printed, version_printed, words_in}
use Rattle.cq_layout.specs.Version.{version_of}

-- no word holds a space or a line feed
abbrev pub ArePrinted : List (List ℕ) → Type 0
ArePrinted [] = Unit {0}
ArePrinted (word ∷ words) = IsPrinted word × ArePrinted words

-- a line has a word at least
abbrev pub IsPrintedLine : List (List ℕ) → Type 0
IsPrintedLine [] = ⊥
IsPrintedLine (word ∷ words) = IsPrinted word × ArePrinted words

abbrev pub ArePrintedLines : List (List (List ℕ)) → Type 0
ArePrintedLines [] = Unit {0}
ArePrintedLines (line ∷ lines) = IsPrintedLine line × ArePrintedLines lines

pub words_of_line : (words : List (List ℕ)) → IsPrintedLine words → words_in (line_of words) ≡ words
words_of_line [] printed = absurd printed
words_of_line (word ∷ []) printed =
    slice_split_none (λ byte. byte == 32) word (printed_free 32 word (omega arith) printed.0)
words_of_line (word ∷ next ∷ words) printed =
    slice_split_at (λ byte. byte == 32) word 32 (line_of (next ∷ words)) (printed_free 32 word (omega arith) printed.0)
    (equal 32)
    ∙ ap (λ (more : List (List ℕ)). word ∷ more) (words_of_line (next ∷ words) printed.1)

line_free : (words : List (List ℕ)) → IsPrintedLine words → IsFree 10 (line_of words)
line_free [] printed = absurd printed
line_free (word ∷ []) printed = printed_free 10 word (omega arith) printed.0
line_free (word ∷ next ∷ words) printed =
    All-append (λ byte. byte == 10 ≡ false) word (32 ∷ line_of (next ∷ words))
    (printed_free 10 word (omega arith) printed.0)
    (All-cons (λ byte. byte == 10 ≡ false) 32 (line_of (next ∷ words)) refl (line_free (next ∷ words) printed.1))

-- the first line of a text is cut off
pub first_line : (words : List (List ℕ)) (lines : List (List (List ℕ))) → IsPrintedLine words
    → lines_in (lines_text (words ∷ lines)) ≡ line_of words ∷ lines_in (lines_text lines)
first_line words lines printed =
    ap lines_in (append_assoc (line_of words) (10 ∷ []) (lines_text lines))
    ∙ slice_split_at (λ byte. byte == 10) (line_of words) 10 (lines_text lines) (line_free words printed) (equal 10)

-- a text that begins with these lines
pub lines_of_front : (lines : List (List (List ℕ))) → ArePrintedLines lines → (rest : List ℕ)
    → lines_in (lines_text lines ++ rest) ≡ map line_of lines ++ lines_in rest
lines_of_front [] printed rest = refl
lines_of_front (line ∷ lines) printed rest =
    ap lines_in
    (append_assoc (line_of line ++ 10 ∷ []) (lines_text lines) rest
    ∙ append_assoc (line_of line) (10 ∷ []) (lines_text lines ++ rest))
    ∙ slice_split_at (λ byte. byte == 10) (line_of line) 10 (lines_text lines ++ rest) (line_free line printed.0) (equal 10)
    ∙ ap (λ (more : List (List ℕ)). line_of line ∷ more) (lines_of_front lines printed.1 rest)

lines_of_text : (lines : List (List (List ℕ))) → ArePrintedLines lines
    → lines_in (lines_text lines) ≡ map line_of lines ++ [] ∷ []
lines_of_text lines printed = ap lines_in (sym (append-nil (lines_text lines))) ∙ lines_of_front lines printed []

words_of_lines : (lines : List (List (List ℕ))) → ArePrintedLines lines → map words_in (map line_of lines) ≡ lines
words_of_lines [] printed = refl
words_of_lines (line ∷ lines) printed =
    ap (λ (words : List (List ℕ)). words ∷ map words_in (map line_of lines)) (words_of_line line printed.0)
    ∙ ap (λ (more : List (List (List ℕ))). line ∷ more) (words_of_lines lines printed.1)

-- a text says its lines
pub lines_text_injective : (one other : List (List (List ℕ))) → ArePrintedLines one → ArePrintedLines other
    → lines_text one ≡ lines_text other → one ≡ other
lines_text_injective one other printed printed' same =
    let parts : map line_of one ++ [] ∷ [] ≡ map line_of other ++ [] ∷ [] =
    sym (lines_of_text one printed) ∙ ap lines_in same ∙ lines_of_text other printed' in
    sym (words_of_lines one printed)
    ∙ ap (map words_in) (append_cancel_right (map line_of one) (map line_of other) ([] ∷ []) parts)
    ∙ words_of_lines other printed'

-- a line of its form is at no fault
pub fault_behind_line : (words : List (List ℕ)) (lines : List (List (List ℕ))) → IsPrintedLine words → (number : ℕ)
    (forms : List Form)
    → pointwise (λ (test : List ℕ → Bool) word. test word) (get_or forms 0 name_form) words ≡ true
    → fault_from number forms (lines_text (words ∷ lines)) ≡ fault_from (number + 1) (drop 1 forms) (lines_text lines)
unfolding has_form
fault_behind_line words lines printed number forms passes =
    fault_behind (lines_text (words ∷ lines)) (line_of words) (lines_text lines) (first_line words lines printed) number
    forms
    (ap (pointwise (λ (test : List ℕ → Bool) word. test word) (get_or forms 0 name_form)) (words_of_line words printed)
    ∙ passes)

-- the lines of settings are printed
setting_printed : (key : List ℕ) (n : ℕ) → IsPrinted key → n < 2 ^ 64 → IsPrintedLine (key ∷ decimal n ∷ [])
setting_printed key n printed fits = (printed, (decimal_printed n fits, tt))

name_line_printed : (name : List ℕ) (position : ℕ) → IsNameWord name → position < 2 ^ 64
    → IsPrintedLine (name_words (name, position))
name_line_printed name position word fits =
    (text_printed (codes "name") refl, (name_printed name word, (decimal_printed position fits, tt)))

pub tail_writable : (name : List ℕ) (names : List (List ℕ)) (position : ℕ) (positions : List ℕ)
    → AreWritableNames (name ∷ names) (position ∷ positions) → AreWritableNames names positions
tail_writable name names position positions writable = record {
  words = All-tail IsNameWord name names writable.words;
  places = All-tail (λ place. place < 2 ^ 64) position positions writable.places;
  paired = omega (arith, writable.paired);
}

pub names_printed : (names : List (List ℕ)) (positions : List ℕ) → AreWritableNames names positions
    → ArePrintedLines (name_lines names positions)
names_printed [] positions writable = tt
names_printed (name ∷ names) [] writable = tt
names_printed (name ∷ names) (position ∷ positions) writable = (
  name_line_printed name position (All-head IsNameWord name names writable.words)
      (All-head (λ place. place < 2 ^ 64) position positions writable.places),
  names_printed names positions (tail_writable name names position positions writable),
)

pub floor_line_printed : (floor : ℕ) → floor < 2 ^ 64 → IsPrintedLine (setting_words (codes "floor") floor)
floor_line_printed floor fits = setting_printed (codes "floor") floor (text_printed (codes "floor") refl) fits

floor_printed : (floor : ℕ) → floor < 2 ^ 64 → ArePrintedLines (floor_lines floor)
floor_printed floor fits = by_test (floor == 0) where
  by_test : (b : Bool) → ArePrintedLines (cond b [] (setting_words (codes "floor") floor ∷ []))
  by_test true = tt
  by_test false = (floor_line_printed floor fits, tt)

printed_append : (one other : List (List (List ℕ))) → ArePrintedLines one → ArePrintedLines other
    → ArePrintedLines (one ++ other)
printed_append [] other printed printed' = printed'
printed_append (line ∷ one) other printed printed' = (printed.0, printed_append one other printed.1 printed')

module _ (settings : Settings) (positions : List ℕ) (floor : ℕ) (writable : IsWritable settings positions floor) where
  pub head_printed : ArePrintedLines (head_lines settings)
  head_printed = (
    (text_printed (codes "cq") refl, (version_printed (version_of settings.layout.store), tt)),
    (
      (text_printed (codes "roll") refl, (roll_printed settings.roll, tt)),
      (
        setting_printed (codes "epoch") settings.epoch (text_printed (codes "epoch") refl) writable.epoch,
        (
          setting_printed (codes "cells") settings.layout.cells (text_printed (codes "cells") refl) writable.cells,
          (
            setting_printed (codes "count") settings.layout.index_count (text_printed (codes "count") refl) writable.count,
            (
              setting_printed (codes "spacing") settings.layout.index_spacing (text_printed (codes "spacing") refl)
                  writable.spacing,
              (setting_printed (codes "cycles") settings.cycles (text_printed (codes "cycles") refl) writable.cycles, tt),
            ),
          ),
        ),
      ),
    ),
  )

  pub rest_printed : ArePrintedLines (floor_lines floor ++ name_lines settings.names positions)
  rest_printed =
      printed_append (floor_lines floor) (name_lines settings.names positions) (floor_printed floor writable.low)
      (names_printed settings.names positions writable.declared)

  pub config_printed : ArePrintedLines (head_lines settings ++ (floor_lines floor ++ name_lines settings.names positions))
  config_printed =
      printed_append (head_lines settings) (floor_lines floor ++ name_lines settings.names positions) head_printed
      rest_printed

  -- the first line behind the head
  pub line_behind_head : (text rest : List ℕ) → text ≡ lines_text (head_lines settings) ++ rest
      → line_at text 7 ≡ line_at rest 0
  line_behind_head text rest spelled =
      ap (λ (bytes : List ℕ). line_at bytes 7) spelled
      ∙ ap (λ (lines : List (List ℕ)). get_or lines 7 []) (lines_of_front (head_lines settings) head_printed rest)
