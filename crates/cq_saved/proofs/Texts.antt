-- The text of lawful settings is short.
use Rattle.std.proofs.Common.{◌≡◌, ◌<◌, ◌≤◌, ◌+◌, ◌*◌, ◌^◌, ℕ, Bool, true, false, All, List, [], ◌∷◌, ◌++◌, arith, codes, length, if◌then◌else◌, map, subst, sym, ◌==◌}
use Rattle.std.proofs.lemmas.Fmt.{length-decimal-le}
use Rattle.std.proofs.lemmas.List.{length-append}
use Rattle.std.proofs.lemmas.List.Elements.{recursion_from_All}
use Rattle.std.specs.Fmt.{decimal}
use Rattle.std.specs.List.{AllByRecursion, zip}
use Rattle.cq_config_text.specs.ConfigText.{IsTextOf, config_text, floor_lines, head_lines, line_of, lines_text, name_lines, name_words, setting_words}
use Rattle.cq_layout.specs.Version.{version_of, version_word}
use Rattle.cq_layout.specs.declared.version.FolderVersion.{FolderVersion}
use Rattle.cq_layout.specs.declared.version.FolderVersion.TheVariants.{First, Second}
use Rattle.cq_cycle.specs.RollWord.{roll_word}
use Rattle.cq_cycle.specs.declared.roll.Roll.{Roll}
use Rattle.cq_cycle.specs.declared.roll.Roll.TheVariants.{Daily, Hourly, Minutely}
use Rattle.cq_model.specs.Settings.{IsLawfulSettings, IsTailerName, Settings}

-- a line is short
abbrev IsShort : List (List ℕ) → Type 0
IsShort words = length (line_of words ++ 10 ∷ []) ≤ 64

-- lines that are short make a text that is not much longer than they are many
lines_short : (ls : List (List (List ℕ))) → AllByRecursion IsShort ls → length (lines_text ls) ≤ 64 * length ls
lines_short [] each = omega arith
lines_short (l ∷ ls) each =
    let one = each.0 in
    let rest = lines_short ls each.1 in
    omega (arith, one, rest, length-append (line_of l ++ 10 ∷ []) (lines_text ls))

-- the same of lines behind others
all_append : (ks ls : List (List (List ℕ))) → AllByRecursion IsShort ks → AllByRecursion IsShort ls
    → AllByRecursion IsShort (ks ++ ls)
all_append [] ls all more = more
all_append (k ∷ ks) ls all more = (all.0, all_append ks ls all.1 more)

-- a number is written in few digits
digits : (n : ℕ) → n < 2 ^ 64 → length (decimal n) ≤ 20
digits n low = length-decimal-le 20 n (omega arith) (omega (arith, low)) low

-- a line of a word and a number
setting_short : (key : List ℕ) (n : ℕ) → length key ≤ 40 → n < 2 ^ 64 → IsShort (setting_words key n)
setting_short key n few low =
    let d = digits n low in
    omega (arith, few, d, length-append (key ++ 32 ∷ decimal n) (10 ∷ []), length-append key (32 ∷ decimal n))

-- a line of two words
pair_short : (one other : List ℕ) → length one ≤ 20 → length other ≤ 20 → IsShort (one ∷ other ∷ [])
pair_short one other few less =
    omega (arith, few, less, length-append (one ++ 32 ∷ other) (10 ∷ []), length-append one (32 ∷ other))

version_short : (v : FolderVersion) → length (version_word v) ≤ 20
version_short First = omega arith
version_short Second = omega arith

roll_short : (roll : Roll) → length (roll_word roll) ≤ 20
roll_short Daily = omega arith
roll_short Hourly = omega arith
roll_short Minutely = omega arith

floor_short : (floor : ℕ) (b : Bool) → floor < 2 ^ 64
    → AllByRecursion IsShort (if b then [] else setting_words (codes "floor") floor ∷ [])
floor_short floor true low = tt
floor_short floor false low = (setting_short (codes "floor") floor (omega arith) low, tt)

floor_few : (floor : ℕ) (b : Bool) → length (if b then [] else setting_words (codes "floor") floor ∷ []) ≤ 1
floor_few floor true = omega arith
floor_few floor false = omega arith

-- a line of a name and its position
name_short : (name : List ℕ) (position : ℕ) → length name ≤ 32 → position < 2 ^ 64 → IsShort (name_words (name, position))
name_short name position few low =
    let d = digits position low in
    omega (
      arith,
      few,
      d,
      length-append (codes "name" ++ 32 ∷ (name ++ 32 ∷ decimal position)) (10 ∷ []),
      length-append name (32 ∷ decimal position),
    )

names_short : (names : List (List ℕ)) (positions : List ℕ) → AllByRecursion IsTailerName names
    → AllByRecursion (λ (p : ℕ). p < 2 ^ 64) positions → AllByRecursion IsShort (name_lines names positions)
names_short [] positions each low = tt
names_short (n ∷ names) [] each low = tt
names_short (n ∷ names) (p ∷ positions) each low =
    let few = each.0.few in
    (name_short n p (omega (arith, few)) low.0, names_short names positions each.1 low.1)

names_few : (names : List (List ℕ)) (positions : List ℕ) → length (name_lines names positions) ≤ length names
names_few [] positions = omega arith
names_few (n ∷ names) [] = omega arith
names_few (n ∷ names) (p ∷ positions) =
    let rest = names_few names positions in
    omega (arith, rest)

pub text_short : (settings : Settings) (positions : List ℕ) (floor : ℕ) (text : List ℕ) → IsLawfulSettings settings
    → IsTextOf settings positions floor text → length text < 2 ^ 32
text_short settings positions floor text lawful is =
    let w = is.writable in
    let head : AllByRecursion IsShort (head_lines settings)
    = (
      pair_short (codes "cq") (version_word (version_of settings.layout.store)) (omega arith) (version_short _),
      (
        pair_short (codes "roll") (roll_word settings.roll) (omega arith) (roll_short settings.roll),
        (
          setting_short (codes "epoch") settings.epoch (omega arith) w.epoch,
          (
            setting_short (codes "cells") settings.layout.cells (omega arith) w.cells,
            (
              setting_short (codes "count") settings.layout.index_count (omega arith) w.count,
              (
                setting_short (codes "spacing") settings.layout.index_spacing (omega arith) w.spacing,
                (setting_short (codes "cycles") settings.cycles (omega arith) w.cycles, tt),
              ),
            ),
          ),
        ),
      ),
    ) in
    let names = name_lines settings.names positions in
    let floors = floor_lines floor in
    let each : AllByRecursion IsShort (head_lines settings ++ (floors ++ names)) =
    all_append (head_lines settings) (floors ++ names) head
    (all_append floors names (floor_short floor (floor == 0) w.low)
    (names_short settings.names positions (recursion_from_All IsTailerName settings.names lawful.names.each)
    (recursion_from_All (λ (p : ℕ). p < 2 ^ 64) positions w.declared.places))) in
    let long = lines_short (head_lines settings ++ (floors ++ names)) each in
    let one = floor_few floor (floor == 0) in
    let some = names_few settings.names positions in
    let few = lawful.names.few in
    subst (λ (t : List ℕ). length t < 2 ^ 32) (sym is.spelled)
    (omega (arith, long, one, some, few, length-append (head_lines settings) (floors ++ names), length-append floors names))
