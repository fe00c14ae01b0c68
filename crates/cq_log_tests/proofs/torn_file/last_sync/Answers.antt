use Rattle.std.proofs.Common.{◌-◌, arith, subst, sym, take}
use Rattle.cq_log_tests.specs.Changes.{MayLeave}
use Rattle.cq_log_tests.proofs.Records.{left_synced}
use Rattle.cq_log_tests.proofs.torn_file.last_sync.Goals as goal

pub returns-in-Sync-clause-left : goal.returns-in-Sync-clause-left
returns-in-Sync-clause-left c =
    subst (MayLeave (take c.syncs.end c.args.changes.now)) (sym c.deref.ensures.value)
    (left_synced c.args.changes.now (c.syncs.end - 1) c.syncs.end _ c.in-Sync.file (omega arith) c.syncs.invariant c.index-changes-end.is c.in-Sync.is)
