-- Which messages are on a way, and what comes next on it.
use Rattle.std.proofs.Common.{◌≡◌, ℕ, zero, suc, ◌+◌, ◌-◌, ◌^◌, ◌<◌, ◌≤◌, min, List, [], ◌∷◌, ◌++◌, drop, length, filter, reverse, cond, true, false, Bool, arith, refl, ap, sym, subst, ◌∙◌, take, Option, None, Some}
use Rattle.std.specs.Prelude.{nat_le, nat_lt, option_map}
use Rattle.std.specs.List.{AllByRecursion}
use Rattle.std.proofs.Math.Seq.{take-append_seam}
use Rattle.std.proofs.lemmas.Bool.Decides.{nat_tests}
use Rattle.std.proofs.lemmas.List.{length-drop, length-reverse, reverse-append, reverse-reverse, take-append-drop, take_all}
use Rattle.cq_layout.proofs.Each.{each-append}
use Rattle.cq_model.specs.Finds.{Placed}
use Rattle.cq_model.specs.States.{Rises}
use Rattle.cq_model.specs.declared.contents.Contents.{Contents}
use Rattle.cq_contents.proofs.FewLemmas.{AreFew}
use Rattle.cq_model.specs.Journals.{ReaderFacts, cursor_behind, next_in}
use Rattle.cq_commands.specs.Messages.{asked, between, chosen, last_messages, limited, readable, way_of}
use Rattle.cq_commands.specs.Spans.{is_within, read_span, span_messages, spanned}
use Rattle.cq_commands.specs.declared.printing.Span.{Span}
use Rattle.cq_commands.proofs.FindingLemmas.{AllAfter, AllBelow, after, after-append, after_both, below, below_after, below_all, next_asked, none_after, none_asked, none_below}

-- a list of one more, turned round
turned_more : (x : Placed) (xs : List Placed) → reverse (x ∷ xs) ≡ reverse xs ++ x ∷ []
turned_more x xs = reverse-append (x ∷ []) xs

-- what holds of each message holds of each where they are turned round
each_turned : (P : Placed → Type 0) (xs : List Placed) → AllByRecursion P xs → AllByRecursion P (reverse xs)
each_turned P [] all = tt
each_turned P (x ∷ xs) all =
    subst (AllByRecursion P) (sym (turned_more x xs)) (each-append P (reverse xs) (x ∷ []) (each_turned P xs all.1) (all.0, tt))

after_one : (p : ℕ) (x : Placed) → reverse (after p (x ∷ [])) ≡ after p (x ∷ [])
after_one p x = by (nat_le p x.0)
  where
    by : (b : Bool) → reverse (cond b (x ∷ []) []) ≡ cond b (x ∷ []) []
    by true = refl
    by false = refl

-- the messages at or after a place, turned round
after_turned : (p : ℕ) (xs : List Placed) → after p (reverse xs) ≡ reverse (after p xs)
after_turned p [] = refl
after_turned p (x ∷ xs) =
    ap (after p) (turned_more x xs) ∙ after-append p (reverse xs) (x ∷ [])
    ∙ ap (λ (front : List Placed). front ++ after p (x ∷ [])) (after_turned p xs)
    ∙ ap (λ (last : List Placed). reverse (after p xs) ++ last) (sym (after_one p x))
    ∙ sym (reverse-append (after p (x ∷ [])) (after p xs))
    ∙ ap (λ (ys : List Placed). reverse ys) (sym (after-append p (x ∷ []) xs))

-- what is below one place and another is below the earlier one
below_both : (p q : ℕ) (xs : List Placed) → below p (below q xs) ≡ below (min p q) xs
below_both p q [] = refl
below_both p q (x ∷ xs) = by (nat_lt x.0 q) refl (nat_lt x.0 p) refl (nat_lt x.0 (min p q)) refl (below_both p q xs) where
  by : (b : Bool) → nat_lt x.0 q ≡ b → (d : Bool) → nat_lt x.0 p ≡ d → (e : Bool) → nat_lt x.0 (min p q) ≡ e
      → below p (below q xs) ≡ below (min p q) xs
      → below p (cond b (x ∷ below q xs) (below q xs)) ≡ cond e (x ∷ below (min p q) xs) (below (min p q) xs)
  by true is true is' true is'' more =
      ap (λ (t : Bool). cond t (x ∷ below p (below q xs)) (below p (below q xs))) is'
      ∙ ap (λ (rest : List Placed). x ∷ rest) more
  by true is false is' false is'' more =
      ap (λ (t : Bool). cond t (x ∷ below p (below q xs)) (below p (below q xs))) is' ∙ more
  by false is d is' false is'' more = more
  by true is true is' false is'' more = absurd (grind (arith, nat_tests))
  by true is false is' true is'' more = absurd (grind (arith, nat_tests))
  by false is d is' true is'' more = absurd (grind (arith, nat_tests))

-- what is at or after one place is at or after an earlier one
after_all : (p q : ℕ) (xs : List Placed) → p ≤ q → AllAfter p (after q xs)
after_all p q [] low = tt
after_all p q (x ∷ xs) low = by (nat_le q x.0) refl (after_all p q xs low) where
  by : (b : Bool) → nat_le q x.0 ≡ b → AllAfter p (after q xs) → AllAfter p (cond b (x ∷ after q xs) (after q xs))
  by true passes more =
      let high : p ≤ x.0 = grind (arith, nat_tests) in
      (high, more)
  by false passes more = more

-- backwards from a place all messages are below it
asked_below : (p : ℕ) (xs : List Placed) → AllBelow p (asked true p xs)
asked_below p xs =
    let same : p ≤ p = omega arith in
    each_turned (λ (x : Placed). x.0 < p) (below p xs) (below_all p p xs same)

-- behind a message at which a way has come to its end none is on it
beyond : (back : Bool) (stop p : ℕ) (f : Placed) (messages : List Placed) → is_within back stop f.0 ≡ false
    → filter (λ (found : Placed). is_within back stop found.0) (asked back (cursor_behind (way_of back) (Some f) p) messages) ≡ []
beyond false stop p f messages ended =
    let past : nat_lt f.0 stop ≡ false = ended in
    let high : stop ≤ f.0 + 1 = grind (arith, nat_tests) in
    none_below stop (after (f.0 + 1) messages) (after_all stop (f.0 + 1) messages high)
beyond true stop p f messages ended =
    let past : nat_le stop f.0 ≡ false = ended in
    let low : f.0 ≤ stop = grind (arith, nat_tests) in
    none_after stop (reverse (below f.0 messages)) (each_turned (λ (x : Placed). x.0 < stop) (below f.0 messages) (below_all f.0 stop messages low))

-- the limit after a message was found
abbrev pub limit_after : Option ℕ → Option ℕ
limit_after limit = option_map (λ count. count - 1) limit

pub one_limited : (limit : Option ℕ) (f : Placed) (rest : List Placed) → ¬ (limit ≡ Some 0) → limited limit (f ∷ rest) ≡ f ∷ limited (limit_after limit) rest
one_limited None f rest some = refl
one_limited (Some zero) f rest some = absurd (some refl)
one_limited (Some (suc n)) f rest some =
    let same : n ≡ suc n - 1 = omega arith in
    ap (λ (m : ℕ). f ∷ take m rest) same

pub none_limited : (limit : Option ℕ) → limited limit [] ≡ []
none_limited None = refl
none_limited (Some zero) = refl
none_limited (Some (suc n)) = refl

-- a reader and what it finds next
module _ (s : Span) (contents : Contents) (reader : ReaderFacts) (found : Option Placed) (limit : Option ℕ) (cursor : ℕ) (rises : Rises contents.lists) (few : AreFew contents.lists)
    (way : reader.way ≡ way_of s.back) (held : reader.journal.contents ≡ contents) (next : found ≡ next_in reader.way reader.journal.contents reader.cursor)
    (behind : cursor ≡ cursor_behind reader.way found reader.cursor) where
  is : found ≡ next_in (way_of s.back) contents reader.cursor
  is = next ∙ ap (λ way. next_in way reader.journal.contents reader.cursor) way
      ∙ ap (λ (held : Contents). next_in (way_of s.back) held reader.cursor) held

  -- where none is found nothing is left
  pub none_next : found ≡ None → limited limit (spanned s reader.cursor (readable contents)) ≡ []
  none_next none =
      ap (λ (xs : List Placed). limited limit (filter (λ (x : Placed). is_within s.back s.stop x.0) xs)) (none_asked s.back contents reader.cursor rises few (sym none ∙ is))
      ∙ none_limited limit

  cursor_is : (f : Placed) → found ≡ Some f → cursor ≡ cursor_behind (way_of s.back) (Some f) reader.cursor
  cursor_is f one =
      behind ∙ ap (λ way. cursor_behind way found reader.cursor) way
      ∙ ap (λ (o : Option Placed). cursor_behind (way_of s.back) o reader.cursor) one

  split : (f : Placed) → found ≡ Some f → asked s.back reader.cursor (readable contents) ≡ f ∷ asked s.back cursor (readable contents)
  split f one =
      next_asked s.back contents reader.cursor f rises few (sym one ∙ is)
      ∙ ap (λ (p : ℕ). f ∷ asked s.back p (readable contents)) (sym (cursor_is f one))

  -- backwards the message that is found is below the cursor
  low_next : (f : Placed) → found ≡ Some f → s.back ≡ true → f.0 < reader.cursor
  low_next f one back =
      let first : asked true reader.cursor (readable contents) ≡ f ∷ asked s.back cursor (readable contents) = subst (λ (b : Bool). asked b reader.cursor (readable contents) ≡ f ∷ asked s.back cursor (readable contents)) back (split f one) in
      (subst (AllBelow reader.cursor) first (asked_below reader.cursor (readable contents))).0

  -- an index is left after the message that is found on the way
  pub fits_next : (f : Placed) → found ≡ Some f → reader.cursor < 2 ^ 64 → s.stop < 2 ^ 64 → is_within s.back s.stop f.0 ≡ true
      → f.0 + 1 < 2 ^ 64
  fits_next f one low high within = by s.back refl
    where
      by : (b : Bool) → s.back ≡ b → f.0 + 1 < 2 ^ 64
      by true back = let below = low_next f one back in omega (arith, below, low)
      by false back =
          let before : nat_lt f.0 s.stop ≡ true = subst (λ (b : Bool). is_within b s.stop f.0 ≡ true) back within in
          let under : f.0 < s.stop = grind (arith, nat_tests) in
          omega (arith, under, high)

  -- and the cursor is an index then
  pub cursor_next : (f : Placed) → found ≡ Some f → f.0 + 1 < 2 ^ 64 → cursor < 2 ^ 64
  cursor_next f one fits = by s.back refl
    where
      by : (b : Bool) → s.back ≡ b → cursor < 2 ^ 64
      by true back =
          let here : cursor ≡ f.0 = subst (λ (b : Bool). cursor ≡ cursor_behind (way_of b) (Some f) reader.cursor) back (cursor_is f one) in
          omega (arith, here, fits)
      by false back =
          let here : cursor ≡ f.0 + 1 = subst (λ (b : Bool). cursor ≡ cursor_behind (way_of b) (Some f) reader.cursor) back (cursor_is f one) in
          omega (arith, here, fits)

  on_way : (f : Placed) (b : Bool) → found ≡ Some f → is_within s.back s.stop f.0 ≡ b
      → spanned s reader.cursor (readable contents) ≡ cond b (f ∷ spanned s cursor (readable contents)) (spanned s cursor (readable contents))
  on_way f b one within =
      ap (λ (xs : List Placed). filter (λ (x : Placed). is_within s.back s.stop x.0) xs) (split f one)
      ∙ ap (λ (t : Bool). cond t (f ∷ spanned s cursor (readable contents)) (spanned s cursor (readable contents))) within

  -- where the way has come to its end nothing is left
  pub end_next : (f : Placed) → found ≡ Some f → is_within s.back s.stop f.0 ≡ false → limited limit (spanned s reader.cursor (readable contents)) ≡ []
  end_next f one ended =
      ap (limited limit) (on_way f false one ended
      ∙ ap (λ (p : ℕ). spanned s p (readable contents)) (cursor_is f one)
      ∙ beyond s.back s.stop reader.cursor f (readable contents) ended)
      ∙ none_limited limit

  -- the message that is found is the first of what is left, up to the limit
  pub one_next : (f : Placed) → found ≡ Some f → is_within s.back s.stop f.0 ≡ true → ¬ (limit ≡ Some 0)
      → limited limit (spanned s reader.cursor (readable contents)) ≡ f ∷ limited (limit_after limit) (spanned s cursor (readable contents))
  one_next f one within some =
      ap (limited limit) (on_way f true one within) ∙ one_limited limit f (spanned s cursor (readable contents)) some

-- the last messages are the first ones backwards, turned round
last_turned : (count : ℕ) (xs : List Placed) → reverse (take count (reverse xs)) ≡ last_messages count xs
last_turned count xs = by (nat_le count (length xs)) refl
  where
    k : ℕ
    k = length xs - count

    by : (b : Bool) → nat_le count (length xs) ≡ b → reverse (take count (reverse xs)) ≡ drop k xs
    by true low =
        let below : count ≤ length xs = grind (arith, nat_tests) in
        let same : length xs - (length xs - count) ≡ count = omega (arith, below) in
        let long : length (reverse (drop k xs)) ≡ count = length-reverse (drop k xs) ∙ length-drop k xs ∙ same in
        ap (λ (ys : List Placed). reverse (take count (reverse ys))) (sym (take-append-drop k xs))
        ∙ ap (λ (ys : List Placed). reverse (take count ys)) (reverse-append (take k xs) (drop k xs))
        ∙ ap (λ (n : ℕ). reverse (take n (reverse (drop k xs) ++ reverse (take k xs)))) (sym long)
        ∙ ap (λ (ys : List Placed). reverse ys) (take-append_seam (reverse (drop k xs)) (reverse (take k xs)))
        ∙ reverse-reverse (drop k xs)
    by false high =
        let above : length xs ≤ count = grind (arith, nat_tests) in
        let long : length (reverse xs) ≤ count = subst (λ (n : ℕ). n ≤ count) (sym (length-reverse xs)) above in
        let none : 0 ≡ length xs - count = omega (arith, above) in
        ap (λ (ys : List Placed). reverse ys) (take_all count (reverse xs) long) ∙ reverse-reverse xs
        ∙ ap (λ (n : ℕ). drop n xs) none

-- the messages on the way back from one index to another
backwards : (start since : ℕ) (xs : List Placed) → after since (reverse (below start xs)) ≡ reverse (below start (after since xs))
backwards start since xs = after_turned since (below start xs) ∙ ap (λ (ys : List Placed). reverse ys) (sym (below_after start since xs))

-- the messages on a way are those that are to be printed
pub span_is : (last : Option ℕ) (back : Bool) (limit : Option ℕ) (start since until : ℕ) (xs : List Placed)
    → span_messages last limit (read_span last back start since until) xs ≡ chosen last back limit start (between since until xs)
span_is (Some count) back limit start since until xs =
    ap (λ (ys : List Placed). reverse (take count ys)) (backwards until since xs) ∙ last_turned count (between since until xs)
span_is None true limit start since until xs =
    ap (limited limit) (backwards (min start until) since xs
    ∙ ap (λ (ys : List Placed). reverse ys) (sym (below_both start until (after since xs))))
span_is None false limit start since until xs =
    ap (limited limit) (ap (below until) (sym (after_both start since xs)) ∙ below_after until start (after since xs))

none_asked_of : (back : Bool) (start stop : ℕ) → filter (λ (x : Placed). is_within back stop x.0) (asked back start []) ≡ []
none_asked_of true start stop = refl
none_asked_of false start stop = refl

-- on no way there are messages of an empty queue
pub nothing_on : (last limit : Option ℕ) (s : Span) → span_messages last limit s [] ≡ []
nothing_on None limit s = ap (limited limit) (none_asked_of s.back s.start s.stop) ∙ none_limited limit
nothing_on (Some count) limit s =
    ap (λ (xs : List Placed). reverse (limited (Some count) xs)) (none_asked_of s.back s.start s.stop)
    ∙ ap (λ (xs : List Placed). reverse xs) (none_limited (Some count))
