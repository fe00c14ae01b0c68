-- What is left of the settings and contents of a queue whose names were changed.
use Rattle.std.proofs.Common.{◌≡◌, ◌≢◌, ℕ, suc, ◌<◌, ◌≤◌, ◌++◌, List, [], ◌∷◌, All, length, Some, take, drop, arith, ap, inl, inr, subst, sym, ◌∙◌}
use Rattle.std.specs.List.{AllByRecursion, remove}
use Rattle.std.specs.Prelude.{string_bytes}
use Rattle.std.proofs.lemmas.List.{length-append, length-set, take-append-drop}
use Rattle.std.proofs.lemmas.List.Edits.{length-remove}
use Rattle.std.proofs.lemmas.List.Elements.{All-append, All-set}
use Rattle.std.proofs.lemmas.List.Quantifiers.{all_pairs_push, all_pairs_remove}
use Rattle.std.proofs.lemmas.Option.{slice_get-get_or, slice_get_within}
use Rattle.cq_cycle.specs.declared.roll.TheConstants.{LAST_CYCLE}
use Rattle.cq_files.specs.Queue.{CanBeOpened}
use Rattle.cq_layout.proofs.Each.{each-all, each-append, each-back, each-from_all, each-front, each-weaker}
use Rattle.cq_model.specs.Settings.{AreLawfulNames, IsLawfulSettings, IsTailerName, Settings}
use Rattle.cq_model.specs.States.{IsHeld, end_of}
use Rattle.cq_model.specs.declared.contents.Contents.{Contents}
use Rattle.cq_model.specs.declared.contents.CycleList.{CycleList}
use Rattle.cq_model.proofs.ContentsLemmas.{last_low}
use Rattle.cq_orders.specs.declared.settings.NameChange.{NameChange}
use Rattle.cq_orders.specs.declared.settings.NameChange.TheVariants as change
use Rattle.cq_names.specs.Edits.{Edit, IsEdit, IsNewName, with_names, with_positions}

-- what holds of all of a list holds of the one in it
one_of : {X : Type 0} (P : X → Type 0) (x : X) → P x → All P (x ∷ [])
one_of P x p = each-all P (x ∷ []) (p, tt)

-- what holds of each holds of the others where one is removed
pub all_but_one : {X : Type 0} (P : X → Type 0) (xs : List X) (n : ℕ) → All P xs → All P (remove xs n)
all_but_one P xs n all =
    let each = each-from_all P xs all in
    let front = each-front P (take n xs) (drop n xs) (subst (AllByRecursion P) (sym (take-append-drop n xs)) each) in
    let back = each-back P (take (suc n) xs) (drop (suc n) xs) (subst (AllByRecursion P) (sym (take-append-drop (suc n) xs)) each) in
    each-all P (remove xs n) (each-append P (take n xs) (drop (suc n) xs) front back)

-- the names with a new one are lawful
pub added_names : (settings : Settings) (name : List ℕ) → IsLawfulSettings settings → IsNewName settings name
    → AreLawfulNames (settings.names ++ name ∷ [])
added_names settings name lawful new = record {
  few = let long = length-append settings.names (name ∷ []) in let room = new.room in omega (arith, long, room);
  each = All-append IsTailerName settings.names (name ∷ []) lawful.names.each (one_of IsTailerName name new.lawful);
  distinct = all_pairs_push (λ one other. one ≢ other) settings.names name lawful.names.distinct (λ k d low same.
      new.fresh (k, slice_get-get_or settings.names k d low ∙ ap Some same));
}

-- the names without one are lawful
pub fewer_names : (settings : Settings) (place : ℕ) → IsLawfulSettings settings → place < length settings.names
    → AreLawfulNames (remove settings.names place)
fewer_names settings place lawful there = record {
  few = let long = length-remove settings.names place there in let few = lawful.names.few in omega (arith, long, few);
  each = all_but_one IsTailerName settings.names place lawful.names.each;
  distinct = all_pairs_remove (λ one other. one ≢ other) settings.names place there lawful.names.distinct;
}

-- settings with lawful names in place of their own are lawful
pub named_settings : (settings : Settings) (names : List (List ℕ)) → IsLawfulSettings settings → AreLawfulNames names
    → IsLawfulSettings (with_names settings names)
named_settings settings names lawful good = record {
  layout = lawful.layout;
  one = lawful.one;
  few = lawful.few;
  cells = lawful.cells;
  begun = lawful.begun;
  names = good;
  store = lawful.store;
}

-- no position of a queue that can be opened is past its end
pub in_reach : (settings : Settings) (contents : Contents) → CanBeOpened settings contents → All (λ p. p ≤ end_of contents.lists) contents.positions
in_reach settings contents (inl none) = λ k d low. let zero = none.1 k d low in omega (arith, zero)
in_reach settings contents (inr lawful) = lawful.positions

-- a queue can be opened with other names and positions, where none is past its end
pub can_open : (settings : Settings) (contents : Contents) (names : List (List ℕ)) (positions : List ℕ) → CanBeOpened settings contents
    → length positions ≡ length names → All (λ p. p ≤ end_of contents.lists) positions
    → CanBeOpened (with_names settings names) (with_positions contents positions)
can_open settings contents names positions (inl none) paired reach =
    inl (
      none.0,
      (λ k d low. let least = reach k d low in let zero : end_of contents.lists ≡ 0 = ap end_of none.0 in omega (arith, least, zero)),
      none.2,
    )
can_open settings contents names positions (inr lawful) paired reach =
    inr (record {
      some = lawful.some;
      places = lawful.places;
      rising = lawful.rising;
      held = each-weaker (IsHeld settings) (IsHeld (with_names settings names))
          (λ (l : CycleList) is. record { exists = is.exists; room = is.room; entries = is.entries; lawful = is.lawful })
          contents.lists lawful.held;
      positions = reach;
      declared = paired;
      floor = lawful.floor;
    })

-- the floor of a queue that can be opened is low enough
pub floor_low : (settings : Settings) (contents : Contents) → CanBeOpened settings contents → contents.floor ≤ LAST_CYCLE
floor_low settings contents (inl none) = let zero_floor = none.2 in omega (arith, zero_floor)
floor_low settings contents (inr lawful) =
    let last = last_low settings contents.lists lawful.held in
    let low = lawful.floor in
    omega (arith, last, low)

-- the settings that a change leaves
pub settings_left : (change : NameChange) (settings : Settings) (contents : Contents) (edit : Edit) → IsLawfulSettings settings
    → IsEdit change settings contents edit → IsLawfulSettings (with_names settings edit.names)
settings_left change.List settings contents edit lawful is = absurd is
settings_left (change.Add name at) settings contents edit lawful is =
    subst (λ (e : Edit). IsLawfulSettings (with_names settings e.names)) (sym is.edit_is)
    (named_settings settings _ lawful (added_names settings (string_bytes name) lawful is.new))
settings_left (change.Remove name) settings contents edit lawful is =
    subst (λ (e : Edit). IsLawfulSettings (with_names settings e.names)) (sym is.edit_is)
    (named_settings settings _ lawful (fewer_names settings is.at lawful (slice_get_within settings.names is.at _ is.named)))
settings_left (change.Move name to) settings contents edit lawful is =
    subst (λ (e : Edit). IsLawfulSettings (with_names settings e.names)) (sym is.edit_is)
    (named_settings settings settings.names lawful lawful.names)

-- the contents that a change leaves
pub contents_left : (change : NameChange) (settings : Settings) (contents : Contents) (edit : Edit) → CanBeOpened settings contents
    → length contents.positions ≡ length settings.names → IsEdit change settings contents edit
    → CanBeOpened (with_names settings edit.names) (with_positions contents edit.positions)
contents_left change.List settings contents edit can paired is = absurd is
contents_left (change.Add name at) settings contents edit can paired is =
    subst (λ (e : Edit). CanBeOpened (with_names settings e.names) (with_positions contents e.positions)) (sym is.edit_is)
    (can_open settings contents _ _ can
    (let names = length-append settings.names (string_bytes name ∷ []) in
    let positions = length-append contents.positions (is.position ∷ []) in omega (arith, names, positions, paired))
    (All-append (λ p. p ≤ end_of contents.lists) contents.positions (is.position ∷ []) (in_reach settings contents can)
    (one_of (λ p. p ≤ end_of contents.lists) is.position is.place.reached)))
contents_left (change.Remove name) settings contents edit can paired is =
    let there = slice_get_within settings.names is.at _ is.named in
    subst (λ (e : Edit). CanBeOpened (with_names settings e.names) (with_positions contents e.positions)) (sym is.edit_is)
    (can_open settings contents _ _ can
    (let names = length-remove settings.names is.at there in
    let positions = length-remove contents.positions is.at (subst (λ (n : ℕ). is.at < n) (sym paired) there) in
    omega (arith, names, positions, paired))
    (all_but_one (λ p. p ≤ end_of contents.lists) contents.positions is.at (in_reach settings contents can)))
contents_left (change.Move name to) settings contents edit can paired is =
    subst (λ (e : Edit). CanBeOpened (with_names settings e.names) (with_positions contents e.positions)) (sym is.edit_is)
    (can_open settings contents _ _ can (length-set contents.positions is.at is.position ∙ paired)
    (All-set (λ p. p ≤ end_of contents.lists) contents.positions is.at is.position is.place.reached (in_reach settings contents can)))
