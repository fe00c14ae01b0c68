use Rattle.std.proofs.Common.{◌≡◌, ◌+◌, ℕ, drop, take}
use Rattle.cq_log_tests.specs.Changes.{MayLeave}
use Rattle.cq_log_tests.proofs.torn_file.TornFile.after_crash.Given as goal

abbrev pub invariant-loop-change : goal.invariant-loop-change
invariant-loop-change l =
    (start : ℕ) × (l.change-items ≡ drop start l.self.changes.items) × MayLeave (take (start + l.change-index) l.self.changes.items) l.left.items
