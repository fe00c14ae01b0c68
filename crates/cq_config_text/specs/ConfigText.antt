-- The text of the file `queue.cqc`: lines of words, with a space between the words and a line feed behind each line.
use Rattle.std.specs.Prelude.{ℕ, ◌+◌, ◌^◌, ◌<◌, ◌≤◌, ◌≡◌, List, [], ◌∷◌, ◌++◌, length, map, drop, All, Bool, ◌==◌, ◌&&◌, ◌||◌, nat_lt, if◌then◌else◌, slice_index_or, Option, None, Some, codes}
use Rattle.std.specs.Char.{is_ascii_alphanumeric}
use Rattle.std.specs.Cmp.Lexicographic.{pointwise}
use Rattle.std.specs.Fmt.{decimal}
use Rattle.std.specs.List.{flat_map, join_with_byte, list_all, list_any, slice_split, zip}
use Rattle.std.specs.Str.{bytes_eq}
use Rattle.std.specs.Str.Parse.{digits_value}
use Rattle.cq_cycle.specs.declared.roll.TheConstants.{ROLLS}
use Rattle.cq_cycle.specs.RollWord.{roll_word}
use Rattle.cq_model.specs.Settings.{IsNameByte, Settings}
use Rattle.cq_origin.specs.Origins.{origin_of}
use Rattle.cq_layout.specs.Version.{store_in, version_of, version_word, versions}

-- a word that says what its line sets, and the number
abbrev pub setting_words : List ℕ → ℕ → List (List ℕ)
setting_words key number = key ∷ decimal number ∷ []

-- the words of a tailer's name and of its position
abbrev pub name_words : List ℕ × ℕ → List (List ℕ)
name_words declared = codes "name" ∷ declared.0 ∷ decimal declared.1 ∷ []

-- the words of the lines before the names
abbrev pub head_lines : Settings → List (List (List ℕ))
head_lines settings =
    (codes "cq" ∷ version_word (version_of settings.layout.store) ∷ [])
    ∷ (codes "roll" ∷ roll_word settings.roll ∷ [])
    ∷ setting_words (codes "epoch") settings.epoch
    ∷ setting_words (codes "cells") settings.layout.cells
    ∷ setting_words (codes "count") settings.layout.index_count
    ∷ setting_words (codes "spacing") settings.layout.index_spacing
    ∷ setting_words (codes "cycles") settings.cycles
    ∷ []

-- the words of a line for each name, in the order of declaration
abbrev pub name_lines : List (List ℕ) → List ℕ → List (List (List ℕ))
name_lines names positions = map name_words (zip names positions)

-- the words of a line for the first cycle that reads look at, unless that is cycle 0
abbrev pub floor_lines : ℕ → List (List (List ℕ))
floor_lines floor = if floor == 0 then [] else setting_words (codes "floor") floor ∷ []

-- a line: its words with a space between them
abbrev pub line_of : List (List ℕ) → List ℕ
line_of = join_with_byte 32

-- lines, with a line feed behind each
abbrev pub lines_text : List (List (List ℕ)) → List ℕ
lines_text = flat_map (λ words. line_of words ++ 10 ∷ [])

-- the text of these settings, with the position of each name and the floor
abbrev pub config_text : Settings → List ℕ → ℕ → List ℕ
config_text settings positions floor =
    lines_text (head_lines settings ++ (floor_lines floor ++ name_lines settings.names positions))

-- a name as the text can spell it: one or more letters, digits, `_`, `-` and `.`
pub record IsNameWord (name : List ℕ) : Type 0 where
  pub some : 1 ≤ length name
  pub bytes : All IsNameByte name

-- names that can be written with these positions, lawful or not: there is a position for each, below 2^64
pub record AreWritableNames (names : List (List ℕ)) (positions : List ℕ) : Type 0 where
  pub words : All IsNameWord names
  pub places : All (λ position. position < 2 ^ 64) positions
  pub paired : length positions ≡ length names

-- settings that can be written with these positions and this floor, lawful or not: the numbers are below 2^64, and a store
-- record that tells an origin tells that of the settings
pub record IsWritable (settings : Settings) (positions : List ℕ) (floor : ℕ) : Type 0 where
  pub epoch : settings.epoch < 2 ^ 64
  pub cells : settings.layout.cells < 2 ^ 64
  pub count : settings.layout.index_count < 2 ^ 64
  pub spacing : settings.layout.index_spacing < 2 ^ 64
  pub cycles : settings.cycles < 2 ^ 64
  pub low : floor < 2 ^ 64
  pub declared : AreWritableNames settings.names positions
  pub store : settings.layout.store ≡ store_in (version_of settings.layout.store) (origin_of settings.roll settings.epoch)

-- the text is that of these settings, positions and floor
pub record IsTextOf (settings : Settings) (positions : List ℕ) (floor : ℕ) (text : List ℕ) : Type 0 where
  pub writable : IsWritable settings positions floor
  pub spelled : text ≡ config_text settings positions floor

-- the word is a number below 2^64, as it is printed: in decimal without leading zeros
abbrev pub is_number : List ℕ → Bool
is_number word = nat_lt (digits_value 10 word) (2 ^ 64) && bytes_eq word (decimal (digits_value 10 word))

-- the word is such a number, and not 0
abbrev pub is_positive : List ℕ → Bool
is_positive word = nat_lt 0 (digits_value 10 word) && is_number word

-- the word names a version
abbrev pub is_version : List ℕ → Bool
is_version word = list_any (λ version. bytes_eq word (version_word version)) versions

-- the word names a roll
abbrev pub is_roll : List ℕ → Bool
is_roll word = list_any (λ roll. bytes_eq word (roll_word roll)) ROLLS

-- a byte of a name
abbrev pub is_name_byte : ℕ → Bool
is_name_byte byte = is_ascii_alphanumeric byte || (byte == 95 || (byte == 45 || byte == 46))

-- the word is one that a name may be
abbrev pub is_name : List ℕ → Bool
is_name word = nat_lt 0 (length word) && list_all is_name_byte word

-- a test for each word of a line
abbrev pub Form : Type 0
Form = List (List ℕ → Bool)

-- the line of the version
abbrev pub version_form : Form
version_form = bytes_eq (codes "cq") ∷ is_version ∷ []

-- the line of the roll
abbrev pub roll_form : Form
roll_form = bytes_eq (codes "roll") ∷ is_roll ∷ []

-- the line of a setting that is a number
abbrev pub setting_form : List ℕ → Form
setting_form key = bytes_eq key ∷ is_number ∷ []

-- the line of the floor, which is not 0
abbrev pub floor_form : Form
floor_form = bytes_eq (codes "floor") ∷ is_positive ∷ []

-- the line of a name with its position
abbrev pub name_form : Form
name_form = bytes_eq (codes "name") ∷ is_name ∷ is_number ∷ []

-- the forms of the lines before the names
abbrev pub head_forms : List Form
head_forms =
    version_form
    ∷ roll_form
    ∷ setting_form (codes "epoch")
    ∷ setting_form (codes "cells")
    ∷ setting_form (codes "count")
    ∷ setting_form (codes "spacing")
    ∷ setting_form (codes "cycles")
    ∷ []

-- the line has a word for each test, with one space between words, and each test passes
unfoldable pub has_form : Form → List ℕ → Bool
has_form form line = pointwise (λ test word. test word) form (slice_split (λ byte. byte == 32) line)

-- the number of the first part that is no line of its form, where a line feed ends each part but the last one. Parts
-- beyond the forms are lines of names, and behind the last line feed stands nothing
unfoldable pub first_fault : ℕ → List Form → List (List ℕ) → Option ℕ
first_fault number forms [] = None
first_fault number forms (last ∷ []) = if length forms + length last == 0 then None else Some number
first_fault number forms (line ∷ next ∷ parts) =
    if has_form (slice_index_or forms 0 name_form) line then first_fault (number + 1) (drop 1 forms) (next ∷ parts)
    else Some number

-- the same of a text
unfoldable pub fault_from : ℕ → List Form → List ℕ → Option ℕ
fault_from number forms text = first_fault number forms (slice_split (λ byte. byte == 10) text)

-- the line that has so many before it in a text
abbrev pub line_at : List ℕ → ℕ → List ℕ
line_at text before = slice_index_or (slice_split (λ byte. byte == 10) text) before []

-- the forms of the lines between the head and the names, by the first line there: one of the floor may stand, or none
abbrev pub floor_forms : List ℕ → List Form
floor_forms line = if has_form floor_form line then floor_form ∷ [] else []

-- the number of the first line, from 1, that is not one whole line of the format in its place
abbrev pub faulty_line : List ℕ → Option ℕ
faulty_line text = fault_from 1 (head_forms ++ floor_forms (line_at text 7)) text
