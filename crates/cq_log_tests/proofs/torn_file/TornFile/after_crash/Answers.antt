use Rattle.std.proofs.Common.{◌≡◌, ◌+◌, ◌∙◌, List, ap, arith, drop, rules, subst, sym, take, ℕ}
use Rattle.std.proofs.lemmas.List.{take_rest}
use Rattle.cq_log_tests.specs.Changes.{Leaves, MayLeave}
use Rattle.cq_log_tests.proofs.Records.{left_last, left_on}
use Rattle.cq_log_tests.proofs.torn_file.TornFile.after_crash.Goals as goal

pub loop-change-init : goal.loop-change-init
loop-change-init c =
    let all = c.args.self.now.changes.items in
    let start = c.last_sync-synced.result.0 in
    let same : c.in_ok-left.left.items ≡ c.last_sync-synced.result.1.now = search rules in
    let none : start ≡ start + 0 = omega arith in
    let left : MayLeave (take start all) c.last_sync-synced.result.1.now =
    subst (λ l. MayLeave (take start l) c.last_sync-synced.result.1.now) c.deref.ensures.value c.last_sync-synced.ensures.left in (
      start,
      take_rest c.deref-2.result.now start ∙ ap (drop start) c.deref-2.ensures.value,
      subst (λ (n : ℕ). MayLeave (take n all) c.in_ok-left.left.items) none (subst (MayLeave (take start all)) (sym same) left),
    )

pub loop-change-preserved : goal.loop-change-preserved
loop-change-preserved c =
    let so_far = c.loop-change.invariant in (
      so_far.0,
      so_far.1,
      left_on c.args.self.now.changes.items _ so_far.0 c.loop-change.change-index c.change-item.result c.loop-change.left.items c.in_ok-left-2.left.items
          so_far.1 c.loop-change-test.true c.change-item.is so_far.2
          (subst (λ d. Leaves c.change-item.result d c.in_ok-left-2.left.items) c.deref-in-loop-change.ensures.value c.in_ok-left-2.ensures),
    )

pub returns : goal.returns
returns c =
    let so_far = c.loop-change.invariant in
    left_last c.args.self.now.changes.items _ so_far.0 c.loop-change.change-index c.loop-change.left.items so_far.1 c.loop-change-test.false so_far.2
