-- The text of a configuration, line by line.
use Rattle.std.proofs.Common.{◌≡◌, ℕ, ◌<◌, ◌^◌, List, [], ◌∷◌, ◌++◌, All, length, refl, ap, ap₂, sym, ◌∙◌, arith, append_assoc, append-nil, get_or, Fits, w64, String, ◌⊎◌, inl, inr}
use Rattle.std.proofs.lemmas.List.{get_or_default, length_push}
use Rattle.std.proofs.lemmas.Grind.{flat_map-append}
use Rattle.std.proofs.lemmas.List.Elements.{All-push, All-weaker}
use Rattle.cq_cycle.specs.declared.roll.Roll.{Roll}
use Rattle.cq_layout.specs.declared.store_record.StoreVersion.{StoreVersion}
use Rattle.cq_layout.specs.declared.store_record.StoreVersion.TheVariants as store
use Rattle.cq_origin.specs.Origins.{origin_of}
use Rattle.cq_layout.specs.Version.{store_in, version_of}
use Rattle.cq_layout.specs.declared.version.FolderVersion.{FolderVersion}
use Rattle.cq_layout.specs.declared.version.FolderVersion.TheVariants.{First, Second}
use Rattle.cq_model.specs.Settings.{IsLawfulSettings, IsStoreOf, IsTailerName, Settings, texts}
use Rattle.cq_config_text.specs.ConfigText.{AreWritableNames, IsNameWord, IsWritable, config_text, floor_lines, head_lines, line_of, lines_text, name_lines, name_words}

-- one more name comes behind the others
name_lines_more : (names : List (List ℕ)) (positions : List ℕ) (name : List ℕ) (position : ℕ)
    → length positions ≡ length names
    → name_lines (names ++ name ∷ []) (positions ++ position ∷ [])
    ≡ name_lines names positions ++ name_words (name, position) ∷ []
name_lines_more [] [] name position paired = refl
name_lines_more [] (other ∷ positions) name position paired = absurd (omega arith)
name_lines_more (other ∷ names) [] name position paired = absurd (omega arith)
name_lines_more (one ∷ names) (at ∷ positions) name position paired =
    ap (λ (more : List (List (List ℕ))). name_words (one, at) ∷ more)
    (name_lines_more names positions name position (omega arith))

pub lines_text-append : (lines more : List (List (List ℕ)))
    → lines_text (lines ++ more) ≡ lines_text lines ++ lines_text more
lines_text-append lines more = flat_map-append (λ words. line_of words ++ 10 ∷ []) lines more

-- a text that was taken apart in three
pub parts_joined : (head floor names : List (List (List ℕ))) (text behind rest : List ℕ) → text ≡ lines_text head ++ behind
    → behind ≡ lines_text floor ++ rest → rest ≡ lines_text names → text ≡ lines_text (head ++ (floor ++ names))
parts_joined head floor names text behind rest front middle last =
    front
    ∙ ap (λ (more : List ℕ). lines_text head ++ more)
    (middle ∙ ap (λ (more : List ℕ). lines_text floor ++ more) last ∙ sym (lines_text-append floor names))
    ∙ sym (lines_text-append head (floor ++ names))

-- a text of which nothing is left
pub at_end : (text lines rest : List ℕ) → text ≡ lines ++ rest → length rest ≡ 0 → text ≡ lines
at_end text lines [] spelled empty = spelled ∙ append-nil lines
at_end text lines (byte ∷ rest) spelled empty = absurd (omega (arith, empty))

-- what is written before the names, and the lines of all names, are the whole
pub begun : (settings : Settings) (positions : List ℕ) (floor : ℕ) (head written : List ℕ) (names : List (List ℕ)) (places : List ℕ)
    → head ≡ lines_text (head_lines settings) → written ≡ head ++ lines_text (floor_lines floor) → names ≡ settings.names → places ≡ positions
    → written ++ lines_text (name_lines names places) ≡ config_text settings positions floor
begun settings positions floor head written names places is_head is_written all placed =
    let front : written ≡ lines_text (head_lines settings) ++ lines_text (floor_lines floor) =
    is_written ∙ ap (λ (bytes : List ℕ). bytes ++ lines_text (floor_lines floor)) is_head in
    let rest = lines_text (name_lines names places) in
    parts_joined (head_lines settings) (floor_lines floor) (name_lines names places) (written ++ rest) (lines_text (floor_lines floor) ++ rest) rest
    (ap (λ (bytes : List ℕ). bytes ++ rest) front ∙ append_assoc (lines_text (head_lines settings)) (lines_text (floor_lines floor)) rest) refl refl
    ∙ ap₂ (λ (ns : List (List ℕ)) (ps : List ℕ). config_text (record settings { names = ns }) ps floor) all placed

lines_text_more : (lines : List (List (List ℕ))) (words : List (List ℕ)) (rest : List ℕ)
    → lines_text (lines ++ words ∷ []) ++ rest ≡ lines_text lines ++ (line_of words ++ 10 ∷ rest)
lines_text_more [] words rest =
    ap (λ (text : List ℕ). text ++ rest) (append-nil (line_of words ++ 10 ∷ []))
    ∙ append_assoc (line_of words) (10 ∷ []) rest
lines_text_more (line ∷ lines) words rest =
    append_assoc (line_of line ++ 10 ∷ []) (lines_text (lines ++ words ∷ [])) rest
    ∙ ap (λ (more : List ℕ). (line_of line ++ 10 ∷ []) ++ more) (lines_text_more lines words rest)
    ∙ sym (append_assoc (line_of line ++ 10 ∷ []) (lines_text lines) (line_of words ++ 10 ∷ rest))

-- a line stands in front of others
pub line_before : (words : List (List ℕ)) (lines : List (List (List ℕ))) (text behind rest : List ℕ)
    → text ≡ line_of words ++ 10 ∷ behind → behind ≡ lines_text lines ++ rest → text ≡ lines_text (words ∷ lines) ++ rest
line_before words lines text behind rest first others =
    first ∙ ap (λ (more : List ℕ). line_of words ++ 10 ∷ more) others
    ∙ sym (append_assoc (line_of words ++ 10 ∷ []) (lines_text lines) rest
    ∙ append_assoc (line_of words) (10 ∷ []) (lines_text lines ++ rest))

-- a name is read or written behind the others
module _ (names more : List (List ℕ)) (positions places : List ℕ) (name : List ℕ) (position : ℕ)
    (is_more : more ≡ names ++ name ∷ []) (is_placed : places ≡ positions ++ position ∷ [])
    (paired : length positions ≡ length names) where
  pub one_name_more : (text rest behind : List ℕ) → text ≡ lines_text (name_lines names positions) ++ rest
      → rest ≡ line_of (name_words (name, position)) ++ 10 ∷ behind
      → text ≡ lines_text (name_lines more places) ++ behind
  one_name_more text rest behind spelled next =
      let lines : name_lines more places ≡ name_lines names positions ++ name_words (name, position) ∷ [] =
      ap (λ (ns : List (List ℕ)). name_lines ns places) is_more
      ∙ ap (λ (ps : List ℕ). name_lines (names ++ name ∷ []) ps) is_placed
      ∙ name_lines_more names positions name position paired in
      spelled ∙ ap (λ (tail : List ℕ). lines_text (name_lines names positions) ++ tail) next
      ∙ sym (lines_text_more (name_lines names positions) (name_words (name, position)) behind)
      ∙ ap (λ (all : List (List (List ℕ))). lines_text all ++ behind) (sym lines)

  pub writable_names_more : AreWritableNames names positions → IsNameWord name → position < 2 ^ 64
      → AreWritableNames more places
  writable_names_more writable word fits = rw (is_more, is_placed) (record {
    words = All-push IsNameWord names name writable.words word;
    places = All-push (λ place. place < 2 ^ 64) positions position writable.places fits;
    paired = omega (arith, length_push positions position, length_push names name, paired);
  })

-- lawful settings can be written
tailer_word : (name : List ℕ) → IsTailerName name → IsNameWord name
tailer_word name is = record { some = is.some; bytes = is.bytes }

pub fits_each : (positions : List ℕ) → ((i : ℕ) → Fits w64 (get_or positions i 0)) → All (λ position. position < 2 ^ 64) positions
fits_each positions fits k d below = omega (arith, fits k, get_or_default positions k d 0 below)

own_store : (roll : Roll) (epoch : ℕ) (version : StoreVersion) → IsStoreOf roll epoch version
    → version ≡ store_in (version_of version) (origin_of roll epoch)
own_store roll epoch store.First is = refl
own_store roll epoch (store.Second origin) is = λ i. store.Second (record { epoch = is.0 i; roll_length = is.1 i })

pub version_kept : (version : FolderVersion) (roll : Roll) (epoch : ℕ) → version_of (store_in version (origin_of roll epoch)) ≡ version
version_kept First roll epoch = refl
version_kept Second roll epoch = refl

-- no names can be written
pub none_declared : AreWritableNames [] []
none_declared = record {
  words = λ k d below. absurd (omega (arith, below));
  places = λ k d below. absurd (omega (arith, below));
  paired = refl;
}

pub lawful_writable : (settings : Settings) (positions : List ℕ) (floor : ℕ) → IsLawfulSettings settings
    → length positions ≡ length settings.names → All (λ position. position < 2 ^ 64) positions → floor < 2 ^ 64
    → IsWritable settings positions floor
lawful_writable settings positions floor lawful paired fits low = record {
  epoch = omega (arith, lawful.begun);
  cells = omega (arith, lawful.layout.shape.cells_high);
  count = omega (arith, lawful.layout.shape.count_high);
  spacing = omega (arith, lawful.layout.shape.spacing_high);
  cycles = omega (arith, lawful.few);
  low = low;
  store = own_store settings.roll settings.epoch settings.layout.store lawful.store;
  declared = record {
    words = All-weaker IsTailerName IsNameWord tailer_word settings.names lawful.names.each;
    places = fits;
    paired = paired;
  };
}

-- where no name is left, nothing is left to write
pub all_written : {A : Type 0} (names : List (String A)) (positions written whole : List ℕ)
    → written ++ lines_text (name_lines (texts names) positions) ≡ whole → (names ≡ []) ⊎ (positions ≡ [])
    → written ≡ whole
all_written [] positions written whole is ended = sym (append-nil written) ∙ is
all_written (name ∷ names) [] written whole is ended = sym (append-nil written) ∙ is
all_written (name ∷ names) (position ∷ positions) written whole is (inl clash) = absurd (cc)
all_written (name ∷ names) (position ∷ positions) written whole is (inr clash) = absurd (cc)
