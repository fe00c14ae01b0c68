-- How many of the messages that reads look at are not below a position.
use Rattle.std.proofs.Common.{◌≡◌, ℕ, ◌+◌, ◌-◌, ◌<◌, ◌≤◌, max, List, [], ◌∷◌, length, filter, cond, Bool, true, false, arith, refl, ap, sym, ◌∙◌, length-append}
use Rattle.std.specs.Prelude.{nat_le, sum_by}
use Rattle.std.proofs.lemmas.List.Elements.{filter-append}
use Rattle.std.proofs.lemmas.List.Recursion.{is_sum_by}
use Rattle.cq_cycle.specs.Index.{index_of}
use Rattle.cq_model.specs.Finds.{Placed}
use Rattle.cq_model.specs.declared.contents.Contents.{Contents}
use Rattle.cq_model.specs.declared.contents.CycleList.{CycleList}
use Rattle.cq_model.proofs.TestLemmas.{is_le, is_not_le, le_is, not_le}
use Rattle.cq_stat.specs.Facts.{left_from, left_in}
use Rattle.cq_model.specs.Readable.{indexed, indexed_from}

-- the messages at or after a place
abbrev after : ℕ → List Placed → List Placed
after p xs = filter (λ (found : Placed). nat_le p found.0) xs

-- the messages of a cycle that are not below a place
left_of : (p c s : ℕ) (ms : List (List ℕ)) → length (after p (indexed_from c s ms)) ≡ length ms - (p - index_of c s)
left_of p c s [] = omega arith
left_of p c s (m ∷ ms) = step (nat_le p (index_of c s)) refl (left_of p c (s + 1) ms)
  where
    rest : List Placed
    rest = after p (indexed_from c (s + 1) ms)

    step : (b : Bool) → nat_le p (index_of c s) ≡ b → length rest ≡ length ms - (p - index_of c (s + 1))
        → length (cond (nat_le p (index_of c s)) ((index_of c s, m) ∷ rest) rest) ≡ length (m ∷ ms) - (p - index_of c s)
    step true is later =
        let low : p ≤ index_of c s = le_is p (index_of c s) is in
        ap (λ (b : Bool). length (cond b ((index_of c s, m) ∷ rest) rest)) is ∙ omega (arith, low, later)
    step false is later =
        let high : index_of c s < p = not_le p (index_of c s) is in
        ap (λ (b : Bool). length (cond b ((index_of c s, m) ∷ rest) rest)) is ∙ omega (arith, high, later)

longer : (x : Placed) (ys zs : List Placed) → length ys ≡ length zs → length (x ∷ ys) ≡ length (x ∷ zs)
longer x ys zs same = omega (arith, same)

-- what is below neither of two places
both : (p q : ℕ) (xs : List Placed) → length (after p (after q xs)) ≡ length (after (max p q) xs)
both p q [] = refl
both p q (x ∷ xs) = step (both p q xs) (nat_le q x.0) refl (nat_le p x.0) refl
  where
    one : (b : Bool) → nat_le q x.0 ≡ b → length (after p (after q (x ∷ xs))) ≡ length (after p (cond b (x ∷ after q xs) (after q xs)))
    one b is = ap (λ (b : Bool). length (after p (cond b (x ∷ after q xs) (after q xs)))) is

    two : (b : Bool) → nat_le p x.0 ≡ b
        → length (after p (x ∷ after q xs)) ≡ length (cond b (x ∷ after p (after q xs)) (after p (after q xs)))
    two b is = ap (λ (b : Bool). length (cond b (x ∷ after p (after q xs)) (after p (after q xs)))) is

    three : (b : Bool) → nat_le (max p q) x.0 ≡ b
        → length (cond b (x ∷ after (max p q) xs) (after (max p q) xs)) ≡ length (after (max p q) (x ∷ xs))
    three b is = ap (λ (b : Bool). length (cond b (x ∷ after (max p q) xs) (after (max p q) xs))) (sym is)

    step : length (after p (after q xs)) ≡ length (after (max p q) xs) → (b : Bool) → nat_le q x.0 ≡ b → (d : Bool) → nat_le p x.0 ≡ d
        → length (after p (after q (x ∷ xs))) ≡ length (after (max p q) (x ∷ xs))
    step rest true one_is true two_is =
        let first : q ≤ x.0 = le_is q x.0 one_is in
        let second : p ≤ x.0 = le_is p x.0 two_is in
        one true one_is ∙ two true two_is ∙ longer x (after p (after q xs)) (after (max p q) xs) rest
        ∙ three true (is_le (max p q) x.0 (omega (arith, first, second)))
    step rest true one_is false two_is =
        let second : x.0 < p = not_le p x.0 two_is in
        one true one_is ∙ two false two_is ∙ rest ∙ three false (is_not_le (max p q) x.0 (omega (arith, second)))
    step rest false one_is d two_is =
        let first : x.0 < q = not_le q x.0 one_is in
        one false one_is ∙ rest ∙ three false (is_not_le (max p q) x.0 (omega (arith, first)))

one_more : (p : ℕ) (l : CycleList) (ls : List CycleList)
    → length (after p (indexed (l ∷ ls))) ≡ left_in p l + length (after p (indexed ls))
one_more p l ls =
    ap length (filter-append (λ (found : Placed). nat_le p found.0) (indexed_from l.cycle 0 l.messages) (indexed ls))
    ∙ length-append (after p (indexed_from l.cycle 0 l.messages)) (after p (indexed ls))
    ∙ ap (λ (n : ℕ). n + length (after p (indexed ls))) (left_of p l.cycle 0 l.messages)

-- the messages of some cycles that are not below a place
left_in_all : (p : ℕ) (ls : List CycleList) → length (after p (indexed ls)) ≡ sum_by (left_in p) ls
left_in_all p ls = is_sum_by (λ (ls : List CycleList). length (after p (indexed ls))) (left_in p) refl (one_more p) ls

-- what is left for a name, counted cycle by cycle
pub left_is : (contents : Contents) (p : ℕ)
    → left_from contents p ≡ sum_by (left_in (max p (index_of contents.floor 0))) contents.lists
left_is contents p =
    both p (index_of contents.floor 0) (indexed contents.lists) ∙ left_in_all (max p (index_of contents.floor 0)) contents.lists
