use Rattle.std.proofs.Common.{◌≤◌, length}
use Rattle.cq_log_tests.proofs.torn_file.last_sync.Given as goal

abbrev pub invariant-syncs : goal.invariant-syncs
invariant-syncs l = l.end ≤ length l.changes

abbrev pub decreases-syncs : goal.decreases-syncs
decreases-syncs l = l.end
