-- A text is that of one list of settings and positions and of one floor at most, and then has no faulty line.
use Rattle.std.proofs.Common.{◌≡◌, ◌==◌, ◌⊎◌, Bool, cond, ℕ, ◌+◌, ◌<◌, ◌^◌, List, [], ◌∷◌, ◌++◌, drop, get_or, length, refl, ap, sym, ◌∙◌, subst, arith, true, false, ◌&&◌, Option, None, Some, Result, Ok, Err, IfOk, IfErr, inl, inr, codes, option_map}
use Rattle.std.proofs.lemmas.Fmt.{decimal_injective}
use Rattle.std.proofs.lemmas.List.Elements.{All-head}
use Rattle.std.specs.Fmt.{decimal}
use Rattle.std.specs.List.{find}
use Rattle.std.specs.Str.{bytes_eq}
use Rattle.cq_cycle.specs.RollWord.{roll_word}
use Rattle.cq_cycle.specs.declared.roll.Roll.{Roll}
use Rattle.cq_cycle.specs.declared.roll.Roll.TheVariants.{Daily}
use Rattle.cq_cycle.specs.declared.roll.TheConstants.{ROLLS}
use Rattle.cq_layout.specs.Layout.{layout_in}
use Rattle.cq_layout.specs.Shape.{measures}
use Rattle.cq_layout.specs.declared.store_record.StoreVersion.{StoreVersion}
use Rattle.cq_origin.specs.Origins.{origin_of}
use Rattle.cq_layout.specs.Version.{store_in, version_of, version_word}
use Rattle.cq_layout.specs.declared.version.FolderVersion.{FolderVersion}
use Rattle.cq_layout.specs.declared.version.FolderVersion.TheVariants.{First, Second}
use Rattle.cq_model.specs.Settings.{IsLawfulSettings, Settings, settings_of}
use Rattle.cq_config_text.specs.ConfigFault.{Judges, RefusesSaved, Saves}
use Rattle.cq_config_text.specs.declared.config_fault.ConfigFault.{ConfigFault}
use Rattle.cq_config_text.specs.declared.config_fault.ConfigFault.TheVariants.{OutOfMemory, Line}
use Rattle.cq_config_text.specs.declared.config_text.SavedConfig.{SavedConfig}
use Rattle.cq_config_text.specs.ConfigText.{AreWritableNames, Form, IsNameWord, IsTextOf, IsWritable, config_text, fault_from, faulty_line, floor_forms, floor_lines, head_forms, head_lines, is_name, is_number, is_roll, is_version, line_at, line_of, lines_text, name_lines, name_words, setting_words}
use Rattle.cq_config_text.proofs.FaultLemmas.{lines_in, no_fault_at_end}
use Rattle.cq_config_text.proofs.FloorLemmas.{fault_behind_floor, floor_is_floor, floor_lines_injective, forms_without, name_is_no_floor, no_floor_at_end, not_zero}
use Rattle.cq_config_text.proofs.LineLemmas.{name_passes, number_passes, roll_passes, version_passes}
use Rattle.cq_config_text.proofs.SpellingLemmas.{ArePrintedLines, IsPrintedLine, config_printed, fault_behind_line, first_line, floor_line_printed, line_behind_head, lines_text_injective, names_printed, tail_writable}
use Rattle.cq_config_text.proofs.TextLemmas.{lines_text-append}

-- tests that pass
number_test : (n : ℕ) → n < 2 ^ 64 → (is_number (decimal n) && true) ≡ true
number_test n fits = ap (λ b. b && true) (number_passes (decimal n) n fits refl)

roll_test : (roll : Roll) → (is_roll (roll_word roll) && true) ≡ true
roll_test roll = ap (λ b. b && true) (roll_passes (roll_word roll) roll refl)

version_test : (version : FolderVersion) → (is_version (version_word version) && true) ≡ true
version_test version = ap (λ b. b && true) (version_passes (version_word version) version refl)

name_test : (name : List ℕ) (n : ℕ) → IsNameWord name → n < 2 ^ 64
    → (is_name name && (is_number (decimal n) && true)) ≡ true
name_test name n word fits =
    ap (λ b. b && (is_number (decimal n) && true)) (name_passes name word) ∙ number_test n fits

names_at_no_fault : (names : List (List ℕ)) (positions : List ℕ) → AreWritableNames names positions → (number : ℕ)
    → fault_from number [] (lines_text (name_lines names positions)) ≡ None
names_at_no_fault [] positions writable number = no_fault_at_end [] refl number
names_at_no_fault (name ∷ names) [] writable number = no_fault_at_end [] refl number
names_at_no_fault (name ∷ names) (position ∷ positions) writable number =
    let word = All-head IsNameWord name names writable.words in
    let fits = All-head (λ place. place < 2 ^ 64) position positions writable.places in
    fault_behind_line (name_words (name, position)) (name_lines names positions)
    (names_printed (name ∷ names) (position ∷ positions) writable).0 number [] (name_test name position word fits)
    ∙ names_at_no_fault names positions (tail_writable name names position positions writable) (number + 1)

-- behind the head comes a line of the floor, or none, and then names
module _ (names : List (List ℕ)) (positions : List ℕ) (writable : AreWritableNames names positions) where
  no_floor_before : floor_forms (line_at (lines_text (name_lines names positions)) 0) ≡ []
  no_floor_before = first names positions writable where
    first : (names : List (List ℕ)) (positions : List ℕ) → AreWritableNames names positions
        → floor_forms (line_at (lines_text (name_lines names positions)) 0) ≡ []
    first [] positions writable = forms_without [] [] [] refl no_floor_at_end
    first (name ∷ names) [] writable = forms_without [] [] [] refl no_floor_at_end
    first (name ∷ names) (position ∷ positions) writable =
        let printed = names_printed (name ∷ names) (position ∷ positions) writable in
        forms_without (lines_text (name_lines (name ∷ names) (position ∷ positions))) (line_of (name_words (name, position)))
        (lines_in (lines_text (name_lines names positions)))
        (first_line (name_words (name, position)) (name_lines names positions) printed.0)
        (name_is_no_floor name (decimal position) printed.0)

  rest_at_no_fault : (floor : ℕ) → floor < 2 ^ 64 → (b : Bool) → (floor == 0) ≡ b
      → let rest = lines_text (cond b [] (setting_words (codes "floor") floor ∷ []) ++ name_lines names positions) in
      fault_from 8 (floor_forms (line_at rest 0)) rest ≡ None
  rest_at_no_fault floor fits true is =
      ap (λ forms. fault_from 8 forms (lines_text (name_lines names positions))) no_floor_before
      ∙ names_at_no_fault names positions writable 8
  rest_at_no_fault floor fits false is =
      let words = setting_words (codes "floor") floor in
      let printed : IsPrintedLine words = floor_line_printed floor fits in
      let cut = first_line words (name_lines names positions) printed in
      fault_behind_floor (lines_text (words ∷ name_lines names positions)) (line_of words)
      (lines_text (name_lines names positions)) cut (floor_is_floor floor (not_zero floor is) fits printed) 8
      ∙ names_at_no_fault names positions writable 9

module _ (settings : Settings) (positions : List ℕ) (floor : ℕ) (writable : IsWritable settings positions floor)
    (forms : List Form) where
  abbrev rest : List (List (List ℕ))
  rest = floor_lines floor ++ name_lines settings.names positions

  abbrev printed : ArePrintedLines (head_lines settings ++ rest)
  printed = config_printed settings positions floor writable

  abbrev cycles : List (List (List ℕ))
  cycles = setting_words (codes "cycles") settings.cycles ∷ rest

  abbrev spacing : List (List (List ℕ))
  spacing = setting_words (codes "spacing") settings.layout.index_spacing ∷ cycles

  abbrev count : List (List (List ℕ))
  count = setting_words (codes "count") settings.layout.index_count ∷ spacing

  abbrev cells : List (List (List ℕ))
  cells = setting_words (codes "cells") settings.layout.cells ∷ count

  abbrev epoch : List (List (List ℕ))
  epoch = setting_words (codes "epoch") settings.epoch ∷ cells

  abbrev roll : List (List (List ℕ))
  roll = (codes "roll" ∷ roll_word settings.roll ∷ []) ∷ epoch

  head_at_no_fault : fault_from 1 (head_forms ++ forms) (config_text settings positions floor)
      ≡ fault_from 8 forms (lines_text rest)
  head_at_no_fault =
      fault_behind_line (codes "cq" ∷ version_word (version_of settings.layout.store) ∷ []) roll printed.0 1
      (head_forms ++ forms) (version_test (version_of settings.layout.store))
      ∙ fault_behind_line (codes "roll" ∷ roll_word settings.roll ∷ []) epoch printed.1.0 2 (drop 1 head_forms ++ forms)
      (roll_test settings.roll)
      ∙ fault_behind_line (setting_words (codes "epoch") settings.epoch) cells printed.1.1.0 3 (drop 2 head_forms ++ forms)
      (number_test settings.epoch writable.epoch)
      ∙ fault_behind_line (setting_words (codes "cells") settings.layout.cells) count printed.1.1.1.0 4
      (drop 3 head_forms ++ forms) (number_test settings.layout.cells writable.cells)
      ∙ fault_behind_line (setting_words (codes "count") settings.layout.index_count) spacing printed.1.1.1.1.0 5
      (drop 4 head_forms ++ forms) (number_test settings.layout.index_count writable.count)
      ∙ fault_behind_line (setting_words (codes "spacing") settings.layout.index_spacing) cycles printed.1.1.1.1.1.0 6
      (drop 5 head_forms ++ forms) (number_test settings.layout.index_spacing writable.spacing)
      ∙ fault_behind_line (setting_words (codes "cycles") settings.cycles) rest printed.1.1.1.1.1.1.0 7
      (drop 6 head_forms ++ forms) (number_test settings.cycles writable.cycles)

config_at_no_fault : (settings : Settings) (positions : List ℕ) (floor : ℕ) → IsWritable settings positions floor
    → faulty_line (config_text settings positions floor) ≡ None
config_at_no_fault settings positions floor writable =
    let rest = floor_lines floor ++ name_lines settings.names positions in
    let text = config_text settings positions floor in
    let spelled : text ≡ lines_text (head_lines settings) ++ lines_text rest =
    lines_text-append (head_lines settings) rest in
    let line = line_behind_head settings positions floor writable text (lines_text rest) spelled in
    head_at_no_fault settings positions floor writable (floor_forms (line_at text 7))
    ∙ ap (λ (first : List ℕ). fault_from 8 (floor_forms first) (lines_text rest)) line
    ∙ rest_at_no_fault settings.names positions writable.declared floor writable.low (floor == 0) refl

-- what lines of the same words say
abbrev roll_of : List ℕ → Option Roll
roll_of word = find (λ roll. bytes_eq word (roll_word roll)) ROLLS

roll_of_word : (roll : Roll) → roll_of (roll_word roll) ≡ Some roll
roll_of_word Daily = refl
roll_of_word _ = refl

roll_word_injective : (one other : Roll) → roll_word one ≡ roll_word other → one ≡ other
roll_word_injective one other same =
    let first = roll_of_word one in let second = roll_of_word other in let both = ap roll_of same in cc

version_word_injective : (one other : FolderVersion) → version_word one ≡ version_word other → one ≡ other
version_word_injective First First same = refl
version_word_injective First Second same = absurd (omega (arith, ap (λ (word : List ℕ). get_or word 0 0) same))
version_word_injective Second First same = absurd (omega (arith, ap (λ (word : List ℕ). get_or word 0 0) same))
version_word_injective Second Second same = refl

abbrev Words : Type 0
Words = List (List ℕ)

-- the first of some lines and the others
one_line : (key word word' : List ℕ) (lines lines' : List Words)
    → (key ∷ word ∷ []) ∷ lines ≡ (key ∷ word' ∷ []) ∷ lines' → (word ≡ word') × (lines ≡ lines')
one_line key word word' lines lines' same = (cc, cc)

one_name : (key name name' place place' : List ℕ) (lines lines' : List Words)
    → (key ∷ name ∷ place ∷ []) ∷ lines ≡ (key ∷ name' ∷ place' ∷ []) ∷ lines'
    → (name ≡ name') × ((place ≡ place') × (lines ≡ lines'))
one_name key name name' place place' lines lines' same = (cc, (cc, cc))

name_lines_injective : (names : List (List ℕ)) (positions : List ℕ) (names' : List (List ℕ)) (positions' : List ℕ)
    → AreWritableNames names positions → AreWritableNames names' positions'
    → name_lines names positions ≡ name_lines names' positions' → (names ≡ names') × (positions ≡ positions')
name_lines_injective [] [] [] [] writable writable' same = (refl, refl)
name_lines_injective [] (_ ∷ _) names' positions' writable writable' same = absurd (omega (arith, writable.paired))
name_lines_injective (_ ∷ _) [] names' positions' writable writable' same = absurd (omega (arith, writable.paired))
name_lines_injective [] [] [] (_ ∷ _) writable writable' same = absurd (omega (arith, writable'.paired))
name_lines_injective [] [] (_ ∷ _) [] writable writable' same = absurd (omega (arith, writable'.paired))
name_lines_injective [] [] (_ ∷ _) (_ ∷ _) writable writable' same = absurd (omega (arith, ap length same))
name_lines_injective (_ ∷ _) (_ ∷ _) [] [] writable writable' same = absurd (omega (arith, ap length same))
name_lines_injective (_ ∷ _) (_ ∷ _) [] (_ ∷ _) writable writable' same = absurd (omega (arith, writable'.paired))
name_lines_injective (_ ∷ _) (_ ∷ _) (_ ∷ _) [] writable writable' same = absurd (omega (arith, writable'.paired))
name_lines_injective (name ∷ names) (place ∷ places) (name' ∷ names') (place' ∷ places') writable writable' same =
    let first = one_name (codes "name") name name' (decimal place) (decimal place') (name_lines names places)
    (name_lines names' places') same in
    let fits = All-head (λ place. place < 2 ^ 64) place places writable.places in
    let fits' = All-head (λ place. place < 2 ^ 64) place' places' writable'.places in
    let at : place ≡ place' = decimal_injective place place' fits fits' first.1.0 in
    let named : name ≡ name' = first.0 in
    let others = name_lines_injective names places names' places' (tail_writable name names place places writable)
    (tail_writable name' names' place' places' writable') first.1.1 in
    let other_names : names ≡ names' = others.0 in
    let other_places : places ≡ places' = others.1 in
    (cc, cc)

-- the settings with these parts
made : StoreVersion → ℕ → ℕ → ℕ → ℕ → Roll → ℕ → List (List ℕ) → Settings
made store cells count spacing cycles roll epoch names =
    settings_of (layout_in store (measures cells count spacing)) cycles roll epoch names

made_of : (settings : Settings) → settings ≡ made settings.layout.store settings.layout.cells settings.layout.index_count
    settings.layout.index_spacing settings.cycles settings.roll settings.epoch settings.names
unfolding made
made_of settings = refl

module _ (one other : Settings) (places places' : List ℕ) (floor floor' : ℕ) (writable : IsWritable one places floor)
    (writable' : IsWritable other places' floor') where
  settings_of_lines : head_lines one ++ (floor_lines floor ++ name_lines one.names places)
      ≡ head_lines other ++ (floor_lines floor' ++ name_lines other.names places')
      → (one ≡ other) × (places ≡ places') × (floor ≡ floor')
  settings_of_lines same =
      let version = one_line _ _ _ _ _ same in
      let roll = one_line _ _ _ _ _ version.1 in
      let epoch = one_line _ _ _ _ _ roll.1 in
      let cells = one_line _ _ _ _ _ epoch.1 in
      let count = one_line _ _ _ _ _ cells.1 in
      let spacing = one_line _ _ _ _ _ count.1 in
      let cycles = one_line _ _ _ _ _ spacing.1 in
      let floors = floor_lines_injective floor floor' writable.low writable'.low one.names other.names places places'
      cycles.1 in
      let declared = name_lines_injective one.names places other.names places' writable.declared writable'.declared
      floors.1 in
      let roll_is : one.roll ≡ other.roll = roll_word_injective one.roll other.roll roll.0 in
      let epoch_is : one.epoch ≡ other.epoch = decimal_injective one.epoch other.epoch writable.epoch writable'.epoch epoch.0 in
      let version_is : version_of one.layout.store ≡ version_of other.layout.store =
      version_word_injective (version_of one.layout.store) (version_of other.layout.store) version.0 in
      let store_is : one.layout.store ≡ other.layout.store =
      writable.store ∙ (λ i. store_in (version_is i) (origin_of (roll_is i) (epoch_is i))) ∙ sym writable'.store in
      let cells_is : one.layout.cells ≡ other.layout.cells =
      decimal_injective one.layout.cells other.layout.cells writable.cells writable'.cells cells.0 in
      let count_is : one.layout.index_count ≡ other.layout.index_count =
      decimal_injective one.layout.index_count other.layout.index_count writable.count writable'.count count.0 in
      let spacing_is : one.layout.index_spacing ≡ other.layout.index_spacing =
      decimal_injective one.layout.index_spacing other.layout.index_spacing writable.spacing writable'.spacing spacing.0 in
      let cycles_is : one.cycles ≡ other.cycles =
      decimal_injective one.cycles other.cycles writable.cycles writable'.cycles cycles.0 in
      let names_is : one.names ≡ other.names = declared.0 in
      let parts = made_of one in
      let parts' = made_of other in
      (cc, declared.1, floors.0)

-- a text is that of one list of settings and positions, and of one floor
pub one_config : (one other : Settings) (places places' : List ℕ) (floor floor' : ℕ) (text : List ℕ)
    → IsTextOf one places floor text → IsTextOf other places' floor' text
    → (one ≡ other) × (places ≡ places') × (floor ≡ floor')
one_config one other places places' floor floor' text is is' =
    settings_of_lines one other places places' floor floor' is.writable is'.writable
    (lines_text_injective (head_lines one ++ (floor_lines floor ++ name_lines one.names places))
    (head_lines other ++ (floor_lines floor' ++ name_lines other.names places'))
    (config_printed one places floor is.writable) (config_printed other places' floor' is'.writable)
    (sym is.spelled ∙ is'.spelled))

pub text_at_no_fault : (settings : Settings) (places : List ℕ) (floor : ℕ) (text : List ℕ)
    → IsTextOf settings places floor text → faulty_line text ≡ None
text_at_no_fault settings places floor text is =
    ap faulty_line is.spelled ∙ config_at_no_fault settings places floor is.writable

-- what is answered for a text that was read is right for every list of settings that it could be the text of
module _ (one : Settings) (places : List ℕ) (floor : ℕ) (text : List ℕ) (is_one : IsTextOf one places floor text) where
  pub judged : (r : Result SavedConfig ConfigFault) → IfOk r (λ saved. Saves saved one places floor)
      → IfErr r (λ fault. RefusesSaved fault one floor) → (settings : Settings) (positions : List ℕ) (start : ℕ)
      → IsTextOf settings positions start text → Judges r settings positions start
  judged (Ok saved) accepted refused settings positions start is =
      let same = one_config one settings places positions floor start text is_one is in
      record {
        config = accepted.config ∙ same.0;
        positions = accepted.positions ∙ same.1;
        floor = accepted.floor ∙ same.2;
        lawful = subst IsLawfulSettings same.0 accepted.lawful;
        low = omega (arith, same.2, accepted.low);
      }
  judged (Err fault) accepted refused settings positions start is =
      let same = one_config one settings places positions floor start text is_one is in
      subst (λ (s : Settings). RefusesSaved fault s start) same.0
      (subst (λ (n : ℕ). RefusesSaved fault one n) same.2 refused)

-- only want of memory is told of a text that was not read and has no faulty line
pub unread : (fault : ConfigFault) (settings : Settings) (positions : List ℕ) (floor : ℕ) (text : List ℕ)
    → IsTextOf settings positions floor text → (fault ≡ OutOfMemory) ⊎ (option_map Line (faulty_line text) ≡ Some fault)
    → RefusesSaved fault settings floor
unread fault settings positions floor text is (inl memory) = subst (λ f. RefusesSaved f settings floor) (sym memory) tt
unread fault settings positions floor text is (inr found) =
    let none : None ≡ Some fault = sym (ap (option_map Line) (text_at_no_fault settings positions floor text is)) ∙ found in
    absurd (cc)
