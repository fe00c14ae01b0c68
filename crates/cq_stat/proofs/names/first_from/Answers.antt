use Rattle.std.proofs.Common.{◌≡◌, ◌+◌, ◌<◌, ◌≤◌, ◌∷◌, List, Some, ap, drop, get_or, length, max, subst, sym, ℕ, ◌∙◌}
use Rattle.std.proofs.lemmas.List.{drop_more}
use Rattle.cq_cycle.specs.Index.{index_of}
use Rattle.cq_model.specs.Finds.{first_in}
use Rattle.cq_model.specs.declared.contents.CycleList.{CycleList}
use Rattle.cq_stat.specs.Facts.{left_in}
use Rattle.cq_stat.proofs.FoundLemmas.{found_here, found_later}
use Rattle.cq_stat.proofs.names.first_from.Goals as goal

-- the cycles that are left, and the first of them
split : (ls : List CycleList) (i : ℕ) (l : CycleList) → i < length ls → l ≡ get_or ls i l → drop i ls ≡ l ∷ drop (i + 1) ls
split ls i l low is = drop_more ls i l low ∙ ap (λ (k : CycleList). k ∷ drop (i + 1) ls) (sym is)

pub returns-then-left_in-gt0 : goal.returns-then-left_in-gt0
returns-then-left_in-gt0 c =
    let ls = c.args.lists.now in
    let i = c.loop-list.list-index in
    let l = c.list-item.result in
    let place = c.args.place in
    let index : c.of_value.result ≡ max place (index_of l.cycle 0) =
    c.of_value.ensures ∙ c.max.ensures ∙ ap (max place) (c.value.ensures ∙ c.new.ensures) in
    let some : 0 < left_in place l = subst (λ (n : ℕ). 0 < n) c.left_in.ensures c.if-left_in-gt0.true in
    ap Some index
    ∙ found_here l (drop (i + 1) ls) ls place some
    (ap (λ (rest : List CycleList). first_in rest place) (sym (split ls i l c.loop-list-test.true c.list-item.is)) ∙ c.loop-list.invariant)

pub loop-list-preserved : goal.loop-list-preserved
loop-list-preserved c =
    let ls = c.args.lists.now in
    let i = c.loop-list.list-index in
    let l = c.list-item.result in
    let place = c.args.place in
    let none : left_in place l ≤ 0 = subst (λ (n : ℕ). n ≤ 0) c.left_in.ensures c.if-left_in-gt0.false in
    found_later l (drop (i + 1) ls) ls place none
    (ap (λ (rest : List CycleList). first_in rest place) (sym (split ls i l c.loop-list-test.true c.list-item.is)) ∙ c.loop-list.invariant)
