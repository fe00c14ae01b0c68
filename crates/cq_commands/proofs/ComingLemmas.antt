-- Rounds one after another print each message once, in order.
use Rattle.std.proofs.Common.{◌≡◌, ◌⊎◌, ℕ, zero, suc, ◌+◌, ◌-◌, ◌^◌, ◌<◌, ◌≤◌, List, [], ◌∷◌, ◌++◌, drop, length, cond, true, false, Bool, inl, inr, arith, refl, ap, sym, ◌∙◌, take, Option, None, Some}
use Rattle.std.specs.Prelude.{nat_le, nat_lt, option_map}
use Rattle.std.specs.List.{AllByRecursion}
use Rattle.std.proofs.Math.Seq.{take-append-add}
use Rattle.std.proofs.lemmas.Bool.{le-leb, lt-leb}
use Rattle.std.proofs.lemmas.Bool.Decides.{nat_tests}
use Rattle.std.proofs.lemmas.List.{append-nil, length-append, length-take-le, take-append-le, take_all}
use Rattle.std.proofs.lemmas.List.Elements.{filter-append}
use Rattle.cq_cycle.specs.Index.{index_of}
use Rattle.cq_layout.proofs.Each.{each-append, each-back, each-filter, each-front, each-weaker}
use Rattle.cq_model.specs.Finds.{Placed}
use Rattle.cq_model.specs.States.{Rises}
use Rattle.cq_model.specs.declared.contents.Contents.{Contents}
use Rattle.cq_model.specs.declared.contents.CycleList.{CycleList}
use Rattle.cq_commands.specs.Messages.{between, indexed, indexed_from, limited, readable}
use Rattle.cq_commands.specs.Rounds.{IndexesRise, coming}
use Rattle.cq_commands.specs.Spans.{place_after, place_at}
use Rattle.cq_commands.specs.TakenBy.{position_after}
use Rattle.cq_commands.specs.declared.printing.ReadPlace.{ReadPlace}
use Rattle.cq_contents.proofs.FewLemmas.{AreFew}
use Rattle.cq_commands.proofs.FindingLemmas.{AllAfter, AllBelow, above_cycle, after, after-append, below, indexes_after, indexes_below}

-- what holds of each message holds of those between two indexes
each_between : (P : Placed → Type 0) (p u : ℕ) (xs : List Placed) → AllByRecursion P xs → AllByRecursion P (between p u xs)
each_between P p u xs all =
    each-filter P (λ (x : Placed). nat_lt x.0 u) (after p xs) (each-filter P (λ (x : Placed). nat_le p x.0) xs all)

between-append : (p u : ℕ) (xs ys : List Placed) → between p u (xs ++ ys) ≡ between p u xs ++ between p u ys
between-append p u xs ys =
    ap (below u) (after-append p xs ys) ∙ filter-append (λ (x : Placed). nat_lt x.0 u) (after p xs) (after p ys)

-- those between two indexes are at or after the first one
all_reached : (p u : ℕ) (xs : List Placed) → AllAfter p (between p u xs)
all_reached p u xs = each-filter (λ (x : Placed). p ≤ x.0) (λ (x : Placed). nat_lt x.0 u) (after p xs) (reached xs)
  where
    reached : (ys : List Placed) → AllAfter p (after p ys)
    reached [] = tt
    reached (y ∷ ys) = by (nat_le p y.0) refl (reached ys)
      where
        by : (b : Bool) → nat_le p y.0 ≡ b → AllAfter p (after p ys) → AllAfter p (cond b (y ∷ after p ys) (after p ys))
        by true is more = let high : p ≤ y.0 = grind (arith, nat_tests) in (high, more)
        by false is more = more

-- of messages that are all at or after an index, those from an earlier one on are those from it on
far : (p q u : ℕ) (xs : List Placed) → p ≤ q → AllAfter q xs → between p u xs ≡ between q u xs
far p q u [] low all = refl
far p q u (x ∷ xs) low all =
    let above : q ≤ x.0 = all.0 in
    let reach : p ≤ x.0 = omega (arith, above, low) in
    ap (λ (b : Bool). below u (cond b (x ∷ after p xs) (after p xs))) (le-leb p x.0 reach)
    ∙ ap (λ (rest : List Placed). cond (nat_lt x.0 u) (x ∷ rest) rest) (far p q u xs low all.1)
    ∙ sym (ap (λ (b : Bool). below u (cond b (x ∷ after q xs) (after q xs))) (le-leb q x.0 above))

-- the position after messages is at or after what they all are at or after
not_before : (p q : ℕ) (ys : List Placed) → q ≤ p → AllAfter q ys → q ≤ position_after p ys
not_before p q [] low all = low
not_before p q (y ∷ ys) low all = let high : q ≤ y.0 = all.0 in not_before (y.0 + 1) q ys (omega (arith, high)) all.1

-- it is at or before what they all are before
not_past : (p q : ℕ) (ys : List Placed) → p ≤ q → AllBelow q ys → position_after p ys ≤ q
not_past p q [] low all = low
not_past p q (y ∷ ys) low all = let under : y.0 < q = all.0 in not_past (y.0 + 1) q ys (omega (arith, under)) all.1

stays_or_not_past : (p q : ℕ) (ys : List Placed) → AllBelow q ys → (position_after p ys ≡ p) ⊎ (position_after p ys ≤ q)
stays_or_not_past p q [] all = inl refl
stays_or_not_past p q (y ∷ ys) all = let under : y.0 < q = all.0 in inr (not_past (y.0 + 1) q ys (omega (arith, under)) all.1)

-- a message below a place is not from it on
passed_over : (n u : ℕ) (x : Placed) (xs : List Placed) → x.0 < n → between n u xs ≡ [] → between n u (x ∷ xs) ≡ []
passed_over n u x xs low none =
    ap (λ (b : Bool). below u (cond b (x ∷ after n xs) (after n xs))) (lt-leb n x.0 low) ∙ none

not_under : (n u : ℕ) (x : Placed) (xs : List Placed) → nat_lt x.0 u ≡ false → between n u xs ≡ [] → between n u (x ∷ xs) ≡ []
not_under n u x xs past none = by (nat_le n x.0)
  where
    by : (b : Bool) → below u (cond b (x ∷ after n xs) (after n xs)) ≡ []
    by true = ap (λ (d : Bool). cond d (x ∷ between n u xs) (between n u xs)) past ∙ none
    by false = none

-- after the messages that have come no other is left
none_left : (p u : ℕ) (xs : List Placed) → IndexesRise xs → between (position_after p (between p u xs)) u xs ≡ []
none_left p u [] rise = refl
none_left p u (x ∷ xs) rise = by (nat_le p x.0) refl (nat_lt x.0 u) refl (none_left p u xs rise.1) (none_left (x.0 + 1) u xs rise.1)
  where
    above : AllAfter (x.0 + 1) xs
    above =
        each-weaker (λ (y : Placed). x.0 < y.0) (λ (y : Placed). x.0 + 1 ≤ y.0) (λ y less. omega (arith, less)) xs rise.0

    by : (b : Bool) → nat_le p x.0 ≡ b → (d : Bool) → nat_lt x.0 u ≡ d
        → between (position_after p (between p u xs)) u xs ≡ []
        → between (position_after (x.0 + 1) (between (x.0 + 1) u xs)) u xs ≡ []
        → between (position_after p (between p u (x ∷ xs))) u (x ∷ xs) ≡ []
    by false is d is' none none' =
        let low : x.0 < p = grind (arith, nat_tests) in
        let same : p ≤ p = omega arith in
        let high : p ≤ position_after p (between p u xs) = not_before p p (between p u xs) same (all_reached p u xs) in
        let less : x.0 < position_after p (between p u xs) = omega (arith, low, high) in
        let skip : between p u (x ∷ xs) ≡ between p u xs = ap (λ (b : Bool). below u (cond b (x ∷ after p xs) (after p xs))) is in
        ap (λ (ms : List Placed). between (position_after p ms) u (x ∷ xs)) skip
        ∙ passed_over (position_after p (between p u xs)) u x xs less none
    by true is false is' none none' =
        let skip : between p u (x ∷ xs) ≡ between p u xs = ap (λ (b : Bool). below u (cond b (x ∷ after p xs) (after p xs))) is
        ∙ ap (λ (d : Bool). cond d (x ∷ between p u xs) (between p u xs)) is' in
        ap (λ (ms : List Placed). between (position_after p ms) u (x ∷ xs)) skip
        ∙ not_under (position_after p (between p u xs)) u x xs is' none
    by true is true is' none none' =
        let low : p ≤ x.0 = grind (arith, nat_tests) in
        let lower : p ≤ x.0 + 1 = omega (arith, low) in
        let same : x.0 + 1 ≤ x.0 + 1 = omega arith in
        let next : ℕ = position_after (x.0 + 1) (between (x.0 + 1) u xs) in
        let high : x.0 + 1 ≤ next = not_before (x.0 + 1) (x.0 + 1) (between (x.0 + 1) u xs) same (all_reached (x.0 + 1) u xs) in
        let less : x.0 < next = omega (arith, high) in
        let take_one : between p u (x ∷ xs) ≡ x ∷ between (x.0 + 1) u xs = ap (λ (b : Bool). below u (cond b (x ∷ after p xs) (after p xs))) is
        ∙ ap (λ (d : Bool). cond d (x ∷ between p u xs) (between p u xs)) is'
        ∙ ap (λ (ms : List Placed). x ∷ ms) (far p (x.0 + 1) u xs lower above) in
        ap (λ (ms : List Placed). between (position_after p ms) u (x ∷ xs)) take_one ∙ passed_over next u x xs less none'

-- where none is left none is where the first ones are gone
none_behind : (n u : ℕ) (x : Placed) (xs : List Placed) → between n u (x ∷ xs) ≡ [] → between n u xs ≡ []
none_behind n u x xs none = by (nat_le n x.0) none
  where
    under : (d : Bool) → cond d (x ∷ between n u xs) (between n u xs) ≡ [] → between n u xs ≡ []
    under true is = let no : x ∷ between n u xs ≡ [] = is in cc
    under false is = is

    by : (b : Bool) → below u (cond b (x ∷ after n xs) (after n xs)) ≡ [] → between n u xs ≡ []
    by true is = under (nat_lt x.0 u) is
    by false is = is

none_of_rest : (n u k : ℕ) (xs : List Placed) → between n u xs ≡ [] → between n u (drop k xs) ≡ []
none_of_rest n u zero xs none = none
none_of_rest n u (suc k) [] none = refl
none_of_rest n u (suc k) (x ∷ xs) none = none_of_rest n u k xs (none_behind n u x xs none)

-- messages that rise do so in both parts, and those of the first part are below those of the other
rise_front : (xs ys : List Placed) → IndexesRise (xs ++ ys) → IndexesRise xs
rise_front [] ys rise = tt
rise_front (x ∷ xs) ys rise =
    (each-front (λ (y : Placed). x.0 < y.0) xs ys rise.0, rise_front xs ys rise.1)

rise_back : (xs ys : List Placed) → IndexesRise (xs ++ ys) → IndexesRise ys
rise_back [] ys rise = rise
rise_back (x ∷ xs) ys rise = rise_back xs ys rise.1

all_under : (xs : List Placed) (y : Placed) (ys : List Placed) → IndexesRise (xs ++ y ∷ ys) → AllBelow y.0 xs
all_under [] y ys rise = tt
all_under (x ∷ xs) y ys rise =
    ((each-back (λ (z : Placed). x.0 < z.0) xs (y ∷ ys) rise.0).0, all_under xs y ys rise.1)

-- from the position after the messages that have come, later ones come as from where those came from
later_come : (p u : ℕ) (old more : List Placed) → IndexesRise (old ++ more)
    → between (position_after p (between p u old)) u more ≡ between p u more
later_come p u old [] rise = refl
later_come p u old (m ∷ ms) rise =
    by (stays_or_not_past p m.0 (between p u old) (each_between (λ (x : Placed). x.0 < m.0) p u old (all_under old m ms rise)))
  where
    next : ℕ
    next = position_after p (between p u old)

    above : AllAfter m.0 (m ∷ ms)
    above =
        let same : m.0 ≤ m.0 = omega arith in
        (same, each-weaker (λ (y : Placed). m.0 < y.0) (λ (y : Placed). m.0 ≤ y.0) (λ y less. omega (arith, less)) ms (rise_back old (m ∷ ms) rise).0)

    by : (next ≡ p) ⊎ (next ≤ m.0) → between next u (m ∷ ms) ≡ between p u (m ∷ ms)
    by (inl stays) = ap (λ (n : ℕ). between n u (m ∷ ms)) stays
    by (inr low) =
        let same : p ≤ p = omega arith in
        let high : p ≤ next = not_before p p (between p u old) same (all_reached p u old) in
        far next m.0 u (m ∷ ms) low above ∙ sym (far p m.0 u (m ∷ ms) (omega (arith, low, high)) above)

-- so what comes next is what has come since
since_then : (p u k : ℕ) (old more : List Placed) → IndexesRise (old ++ more)
    → between (position_after p (between p u old)) u (drop k old ++ more) ≡ between p u more
since_then p u k old more rise =
    let next : ℕ = position_after p (between p u old) in
    between-append next u (drop k old) more
    ∙ ap (λ (front : List Placed). front ++ between next u more) (none_of_rest next u k old (none_left p u old (rise_front old more rise)))
    ∙ later_come p u old more rise

-- a round after a round prints what one does
pub rounds_in_turn : (place : ReadPlace) (u k : ℕ) (old more : List Placed) → IndexesRise (old ++ more)
    → coming None place u (old ++ more)
    ≡ coming None place u old ++ coming None (place_after place (coming None place u old)) u (drop k old ++ more)
rounds_in_turn place u k old more rise = by place.left
  where
    p : ℕ
    p = place.next

    come : List Placed
    come = between p u old

    rest : List Placed
    rest = between p u more

    by : (left : Option ℕ) → limited left (between p u (old ++ more))
        ≡ limited left come ++ coming None (place_after (place_at p left) (limited left come)) u (drop k old ++ more)
    by None = between-append p u old more ∙ ap (λ (ms : List Placed). come ++ ms) (sym (since_then p u k old more rise))
    by (Some n) = cut (nat_le (length come) n) refl
      where
        cut : (b : Bool) → nat_le (length come) n ≡ b → take n (between p u (old ++ more))
            ≡ take n come ++ take (n - length (take n come)) (between (position_after p (take n come)) u (drop k old ++ more))
        cut true is =
            let few : length come ≤ n = grind (arith, nat_tests) in
            let all : take n come ≡ come = take_all n come few in
            let more_left : n ≡ length come + (n - length come) = omega (arith, few) in
            ap (λ (ms : List Placed). take n ms) (between-append p u old more)
            ∙ ap (λ (m : ℕ). take m (come ++ rest)) more_left
            ∙ take-append-add come rest (n - length come)
            ∙ ap (λ (ms : List Placed). come ++ take (n - length come) ms) (sym (since_then p u k old more rise))
            ∙ ap (λ (ms : List Placed). ms ++ take (n - length ms) (between (position_after p ms) u (drop k old ++ more))) (sym all)
        cut false is =
            let many : n ≤ length come = grind (arith, nat_tests) in
            let whole : length (take n come) ≡ n = length-take-le n come many in
            let none : n - length (take n come) ≡ 0 = omega (arith, whole) in
            ap (λ (ms : List Placed). take n ms) (between-append p u old more) ∙ take-append-le n come rest many
            ∙ sym (append-nil (take n come))
            ∙ ap (λ (m : ℕ). take n come ++ take m (between (position_after p (take n come)) u (drop k old ++ more))) (sym none)

after_both_parts : (p : ℕ) (xs ys : List Placed) → position_after p (xs ++ ys) ≡ position_after (position_after p xs) ys
after_both_parts p [] ys = refl
after_both_parts p (x ∷ xs) ys = after_both_parts (x.0 + 1) xs ys

-- and comes to the same place
pub places_in_turn : (place : ReadPlace) (xs ys : List Placed) → place_after place (xs ++ ys) ≡ place_after (place_after place xs) ys
places_in_turn place xs ys =
    ap (λ (next : ℕ). place_at next (option_map (λ left. left - length (xs ++ ys)) place.left)) (after_both_parts place.next xs ys)
    ∙ ap (λ (left : Option ℕ). place_at (position_after (position_after place.next xs) ys) left) (by place.left)
  where
    by : (left : Option ℕ) → option_map (λ n. n - length (xs ++ ys)) left ≡ option_map (λ n. n - length ys) (option_map (λ n. n - length xs) left)
    by None = refl
    by (Some n) =
        let sum : length (xs ++ ys) ≡ length xs + length ys = length-append xs ys in
        let same : n - length (xs ++ ys) ≡ n - length xs - length ys = omega (arith, sum) in
        ap (λ (m : ℕ). Some m) same

-- the messages of a cycle from a sequence on rise
cycle_rises : (c s : ℕ) (ms : List (List ℕ)) → IndexesRise (indexed_from c s ms)
cycle_rises c s [] = tt
cycle_rises c s (m ∷ ms) = (
  each-weaker (λ (x : Placed). index_of c (s + 1) ≤ x.0) (λ (x : Placed). index_of c s < x.0) (λ x high. omega (arith, high))
      (indexed_from c (s + 1) ms) (indexes_after c (s + 1) ms),
  cycle_rises c (s + 1) ms,
)

-- messages below a place rise, and those after it, so all do
rise_both : (q : ℕ) (xs ys : List Placed) → IndexesRise xs → IndexesRise ys → AllBelow q xs → AllAfter q ys → IndexesRise (xs ++ ys)
rise_both q [] ys rise rise' low high = rise'
rise_both q (x ∷ xs) ys rise rise' low high =
    let under : x.0 < q = low.0 in (
      each-append (λ (y : Placed). x.0 < y.0) xs ys rise.0
          (each-weaker (λ (y : Placed). q ≤ y.0) (λ (y : Placed). x.0 < y.0) (λ y above. omega (arith, above, under)) ys high),
      rise_both q xs ys rise.1 rise' low.1 high,
    )

all_rise : (ls : List CycleList) → Rises ls → AreFew ls → IndexesRise (indexed ls)
all_rise [] rises few = tt
all_rise (l ∷ ls) rises few =
    let most : length l.messages ≤ 2 ^ 28 = few.0 in
    let ends : index_of l.cycle (length l.messages) ≤ index_of (l.cycle + 1) 0 = omega (arith, most) in
    let within : 0 + length l.messages ≤ length l.messages = omega arith in
    rise_both (index_of (l.cycle + 1) 0) (indexed_from l.cycle 0 l.messages) (indexed ls) (cycle_rises l.cycle 0 l.messages)
    (all_rise ls rises.1 few.1)
    (each-weaker (λ (x : Placed). x.0 < index_of l.cycle (length l.messages)) (λ (x : Placed). x.0 < index_of (l.cycle + 1) 0)
    (λ x low. omega (arith, low, ends)) (indexed_from l.cycle 0 l.messages) (indexes_below l.cycle 0 (length l.messages) l.messages within))
    (above_cycle l.cycle ls rises.0)

rise_after : (p : ℕ) (xs : List Placed) → IndexesRise xs → IndexesRise (after p xs)
rise_after p [] rise = tt
rise_after p (x ∷ xs) rise = by (nat_le p x.0) (rise_after p xs rise.1)
  where
    by : (b : Bool) → IndexesRise (after p xs) → IndexesRise (cond b (x ∷ after p xs) (after p xs))
    by true more = (each-filter (λ (y : Placed). x.0 < y.0) (λ (y : Placed). nat_le p y.0) xs rise.0, more)
    by false more = more

-- the messages that reads look at rise
pub readable_rises : (contents : Contents) → Rises contents.lists → AreFew contents.lists → IndexesRise (readable contents)
readable_rises contents rises few =
    rise_after (index_of contents.floor 0) (indexed contents.lists) (all_rise contents.lists rises few)
