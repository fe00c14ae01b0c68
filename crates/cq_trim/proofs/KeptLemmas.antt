-- What is left of the cycles of a queue.
use Rattle.std.proofs.Common.{◌≡◌, ℕ, ◌+◌, ◌-◌, ◌*◌, ◌<◌, ◌≤◌, ◌++◌, ◌^◌, List, [], ◌∷◌, length, filter, cond, Bool, true, false, not, arith, refl, ap, subst, sym, ◌∙◌}
use Rattle.std.specs.Prelude.{All, Option, nat_le, nat_lt, slice_get}
use Rattle.std.specs.List.{AllByRecursion}
use Rattle.std.proofs.lemmas.Bool.{ltb-false}
use Rattle.std.proofs.lemmas.List.Elements.{filter-append}
use Rattle.std.proofs.lemmas.List.Filters.{length-filter_both}
use Rattle.std.proofs.lemmas.Nat.{mul-le}
use Rattle.cq_cycle.specs.Index.{index_of}
use Rattle.cq_layout.proofs.Each.{each-filter, each-weaker}
use Rattle.cq_layout.specs.Layout.{IsLawfulLayout}
use Rattle.cq_model.specs.Finds.{Placed, first_in, first_or}
use Rattle.cq_model.specs.Settings.{Settings}
use Rattle.cq_model.specs.States.{AreLawfulContents, IsHeld, Rises, end_of, last_cycle}
use Rattle.cq_model.specs.declared.contents.Contents.{Contents}
use Rattle.cq_model.specs.declared.contents.CycleList.{CycleList}
use Rattle.cq_model.proofs.TestLemmas.{is_le, is_not_le, lt_is, not_le}
use Rattle.cq_model.proofs.FindLemmas.{missing}
use Rattle.cq_stat.specs.Facts.{left_from, with_floor}
use Rattle.cq_model.specs.Readable.{indexed, indexed_from, readable}
use Rattle.cq_trim.specs.Trimmed.{kept_lists, removed_lists, trimmed}

-- a cycle whose messages have sequences of 32 bits
abbrev IsFew : CycleList → Type 0
IsFew l = length l.messages ≤ 2 ^ 32

-- cycles without some of them rise
rises_still : (test : CycleList → Bool) (ls : List CycleList) → Rises ls → Rises (filter test ls)
rises_still test [] rise = tt
rises_still test (l ∷ ls) rise =
    elim (test l) as (λ b. Rises (cond b (l ∷ filter test ls) (filter test ls))) [
      | true ↦ (each-filter (λ (k : CycleList). l.cycle < k.cycle) test ls rise.0, rises_still test ls rise.1)
      | false ↦ rises_still test ls rise.1
    ]

-- the last cycle is left
some_kept : (f : ℕ) (l : CycleList) (ls : List CycleList) → f ≤ last_cycle (l ∷ ls) → 1 ≤ length (kept_lists f (l ∷ ls))
some_kept f l [] low =
    subst (λ (b : Bool). 1 ≤ length (cond b (l ∷ []) [])) (sym (is_le f l.cycle low)) (omega arith)
some_kept f l (k ∷ ls) low =
    let more = some_kept f k ls low in
    elim (nat_le f l.cycle) as (λ b. 1 ≤ length (cond b (l ∷ kept_lists f (k ∷ ls)) (kept_lists f (k ∷ ls)))) [
      | true ↦ omega arith
      | false ↦ more
    ]

-- what is said of the last cycle is said of it still
module _ (h : List CycleList → ℕ) (later : (l k : CycleList) (ls : List CycleList) → h (l ∷ k ∷ ls) ≡ h (k ∷ ls)) where
  before_some : (l : CycleList) (ls : List CycleList) → 1 ≤ length ls → h (l ∷ ls) ≡ h ls
  before_some l [] some = absurd (omega (arith, some))
  before_some l (k ∷ ls) some = later l k ls

  same_last : (f : ℕ) (l : CycleList) (ls : List CycleList) → f ≤ last_cycle (l ∷ ls) → h (kept_lists f (l ∷ ls)) ≡ h (l ∷ ls)
  same_last f l [] low = ap (λ (b : Bool). h (cond b (l ∷ []) [])) (is_le f l.cycle low)
  same_last f l (k ∷ ls) low =
      let same = same_last f k ls low in
      let some = some_kept f k ls low in
      let rest : List CycleList = kept_lists f (k ∷ ls) in
      (elim (nat_le f l.cycle) as (λ b. h (cond b (l ∷ rest) rest) ≡ h (k ∷ ls)) [
        | true ↦ before_some l rest some ∙ same
        | false ↦ same
      ]) ∙ sym (later l k ls)

end_kept : (f : ℕ) (ls : List CycleList) → 1 ≤ length ls → f ≤ last_cycle ls → end_of (kept_lists f ls) ≡ end_of ls
end_kept f [] some low = absurd (omega (arith, some))
end_kept f (l ∷ ls) some low = same_last end_of (λ l k ls. refl) f l ls low

pub last_kept : (f : ℕ) (ls : List CycleList) → 1 ≤ length ls → f ≤ last_cycle ls → last_cycle (kept_lists f ls) ≡ last_cycle ls
last_kept f [] some low = absurd (omega (arith, some))
last_kept f (l ∷ ls) some low = same_last last_cycle (λ l k ls. refl) f l ls low

some_still : (f : ℕ) (ls : List CycleList) → 1 ≤ length ls → f ≤ last_cycle ls → 1 ≤ length (kept_lists f ls)
some_still f [] some low = absurd (omega (arith, some))
some_still f (l ∷ ls) some low = some_kept f l ls low

-- each cycle is kept or removed
other_way : (f : ℕ) (l : CycleList) → nat_le f l.cycle ≡ not (nat_lt l.cycle f)
other_way f l = by (nat_lt l.cycle f) refl
  where
    by : (b : Bool) → nat_lt l.cycle f ≡ b → nat_le f l.cycle ≡ not (nat_lt l.cycle f)
    by true is = is_not_le f l.cycle (lt_is l.cycle f is) ∙ sym (ap not is)
    by false is = is_le f l.cycle (ltb-false l.cycle f is) ∙ sym (ap not is)

both_parts : (f : ℕ) (ls : List CycleList) → length (removed_lists f ls) + length (kept_lists f ls) ≡ length ls
both_parts f ls = length-filter_both (λ (l : CycleList). nat_lt l.cycle f) (λ (l : CycleList). nat_le f l.cycle) (other_way f) ls

pub places_made : (contents : Contents) (floor cycles : ℕ) → length contents.lists ≤ cycles
    → cycles - length (trimmed contents floor).lists ≡ (cycles - length contents.lists) + length (removed_lists floor contents.lists)
places_made contents floor cycles few =
    let parts = both_parts floor contents.lists in
    let removed : ℕ = length (removed_lists floor contents.lists) in
    let kept : ℕ = length (kept_lists floor contents.lists) in
    omega (arith, parts, few)

-- what is left is lawful
pub lawful_still : (settings : Settings) (contents : Contents) (floor : ℕ) → AreLawfulContents settings contents
    → floor ≤ last_cycle contents.lists → AreLawfulContents settings (trimmed contents floor)
lawful_still settings contents floor lawful low =
    let parts = both_parts floor contents.lists in
    let places = lawful.places in
    record {
      some = some_still floor contents.lists lawful.some low;
      places = omega (arith, parts, places);
      rising = rises_still (λ (l : CycleList). nat_le floor l.cycle) contents.lists lawful.rising;
      held = each-filter (IsHeld settings) (λ (l : CycleList). nat_le floor l.cycle) contents.lists lawful.held;
      positions = subst (λ (e : ℕ). All (λ (p : ℕ). p ≤ e) contents.positions) (sym (end_kept floor contents.lists lawful.some low)) lawful.positions;
      declared = lawful.declared;
      floor = subst (λ (n : ℕ). floor ≤ n) (sym (last_kept floor contents.lists lawful.some low)) low;
    }

-- the messages from a floor on
abbrev from_floor : ℕ → List Placed → List Placed
from_floor f xs = filter (λ (found : Placed). nat_le (index_of f 0) found.0) xs

-- an index of a cycle below the floor
below_floor : (f c s : ℕ) → c < f → s < 2 ^ 32 → index_of c s < index_of f 0
below_floor f c s low small = omega (arith, low, small)

none_from : (f c s : ℕ) (ms : List (List ℕ)) → c < f → s + length ms ≤ 2 ^ 32 → from_floor f (indexed_from c s ms) ≡ []
none_from f c s [] low few = refl
none_from f c s (m ∷ ms) low few =
    let below = below_floor f c s low (omega (arith, few)) in
    ap (λ (b : Bool). cond b ((index_of c s, m) ∷ from_floor f (indexed_from c (s + 1) ms)) (from_floor f (indexed_from c (s + 1) ms)))
    (is_not_le (index_of f 0) (index_of c s) below)
    ∙ none_from f c (s + 1) ms low (omega (arith, few))

same_read : (f : ℕ) (ls : List CycleList) → AllByRecursion IsFew ls → from_floor f (indexed (kept_lists f ls)) ≡ from_floor f (indexed ls)
same_read f [] few = refl
same_read f (l ∷ ls) few = by (nat_le f l.cycle) refl (same_read f ls few.1)
  where
    test : Placed → Bool
    test found = nat_le (index_of f 0) found.0

    here : List Placed
    here = indexed_from l.cycle 0 l.messages

    rest : List CycleList
    rest = kept_lists f ls

    split : (xs : List CycleList) → from_floor f (indexed (l ∷ xs)) ≡ from_floor f here ++ from_floor f (indexed xs)
    split xs = filter-append test here (indexed xs)

    by : (b : Bool) → nat_le f l.cycle ≡ b → from_floor f (indexed rest) ≡ from_floor f (indexed ls)
        → from_floor f (indexed (cond (nat_le f l.cycle) (l ∷ rest) rest)) ≡ from_floor f (indexed (l ∷ ls))
    by true is same =
        ap (λ (b : Bool). from_floor f (indexed (cond b (l ∷ rest) rest))) is ∙ split rest
        ∙ ap (λ (xs : List Placed). from_floor f here ++ xs) same ∙ sym (split ls)
    by false is same =
        let here_few = few.0 in
        ap (λ (b : Bool). from_floor f (indexed (cond b (l ∷ rest) rest))) is ∙ same
        ∙ ap (λ (xs : List Placed). xs ++ from_floor f (indexed ls))
        (sym (none_from f l.cycle 0 l.messages (not_le f l.cycle is) (omega (arith, here_few))))
        ∙ sym (split ls)

same_first : (f p : ℕ) (ls : List CycleList) → AllByRecursion IsFew ls → index_of f 0 ≤ p → first_in (kept_lists f ls) p ≡ first_in ls p
same_first f p [] few high = refl
same_first f p (l ∷ ls) few high = by (nat_le f l.cycle) refl (same_first f p ls few.1 high)
  where
    rest : List CycleList
    rest = kept_lists f ls

    at : Option (List ℕ)
    at = slice_get l.messages (p - index_of l.cycle 0)

    by : (b : Bool) → nat_le f l.cycle ≡ b → first_in rest p ≡ first_in ls p → first_in (cond (nat_le f l.cycle) (l ∷ rest) rest) p ≡ first_in (l ∷ ls) p
    by true is same =
        ap (λ (b : Bool). first_in (cond b (l ∷ rest) rest) p) is ∙ ap (first_or l p at) same
    by false is same =
        let low = not_le f l.cycle is in
        let all = few.0 in
        ap (λ (b : Bool). first_in (cond b (l ∷ rest) rest) p) is ∙ same
        ∙ ap (λ (o : Option (List ℕ)). first_or l p o (first_in ls p))
        (sym (missing l.messages (p - index_of l.cycle 0) (omega (arith, low, high, all))))

all_few : (settings : Settings) (ls : List CycleList) → IsLawfulLayout settings.layout → AllByRecursion (IsHeld settings) ls → AllByRecursion IsFew ls
all_few settings ls lawful held = each-weaker (IsHeld settings) IsFew few ls held
  where
    few : (l : CycleList) → IsHeld settings l → length l.messages ≤ 2 ^ 32
    few l held =
        let layout = settings.layout in
        let per_table : layout.index_count * layout.index_spacing ≤ 1024 * 256 = mul-le layout.index_count layout.index_spacing 1024 256 lawful.shape.count_high lawful.shape.spacing_high in
        let most : layout.index_count * (layout.index_count * layout.index_spacing) ≤ 1024 * (1024 * 256) = mul-le layout.index_count (layout.index_count * layout.index_spacing) 1024 (1024 * 256) lawful.shape.count_high per_table in
        let entries = held.entries in
        omega (arith, entries, most)

pub read_still : (settings : Settings) (contents : Contents) (floor : ℕ) → IsLawfulLayout settings.layout
    → AllByRecursion (IsHeld settings) contents.lists → readable (trimmed contents floor) ≡ readable (with_floor contents floor)
read_still settings contents floor lawful held = same_read floor contents.lists (all_few settings contents.lists lawful held)

pub left_still : (settings : Settings) (contents : Contents) (floor position : ℕ) → IsLawfulLayout settings.layout
    → AllByRecursion (IsHeld settings) contents.lists → left_from (trimmed contents floor) position ≡ left_from (with_floor contents floor) position
left_still settings contents floor position lawful held =
    ap (λ (found : List Placed). length (filter (λ (f : Placed). nat_le position f.0) found)) (read_still settings contents floor lawful held)

pub first_still : (settings : Settings) (contents : Contents) (floor place : ℕ) → IsLawfulLayout settings.layout
    → AllByRecursion (IsHeld settings) contents.lists → index_of floor 0 ≤ place
    → first_in (trimmed contents floor).lists place ≡ first_in contents.lists place
first_still settings contents floor place lawful held high = same_first floor place contents.lists (all_few settings contents.lists lawful held) high
