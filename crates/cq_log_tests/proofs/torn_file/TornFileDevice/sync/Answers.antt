use Rattle.std.proofs.lemmas.Result.{on_ok_weaker}
use Rattle.cq_log_tests.proofs.Records.{elapses, either, only_synced, synced_back}
use Rattle.cq_log_tests.specs.Changes.{IsSync}
use Rattle.cq_log_tests.proofs.torn_file.TornFileDevice.sync.Goals as goal

pub returns-clause-durable : goal.returns-clause-durable
returns-clause-durable c =
    on_ok_weaker c.settle-done.result
    (λ added. only_synced c.args.self.now.file.items c.args.self.now.changes.items c.settle-done.new.self.changes.items added)
    c.settle-done.ensures.synced

pub returns-clause-crash : goal.returns-clause-crash
returns-clause-crash c =
    synced_back c.args.self.now.file.items c.args.self.now.changes.items c.settle-done.new.self.changes.items c.args.self.now.replayed
    (either c.settle-done.result _ _ c.settle-done.ensures.synced c.settle-done.ensures.unchanged)

pub returns-clause-time : goal.returns-clause-time
returns-clause-time c =
    elapses (IsSync c.args.self.now.file.items) c.args.self.now.changes.items c.settle-done.new.self.changes.items
    (either c.settle-done.result _ _ c.settle-done.ensures.synced c.settle-done.ensures.unchanged)
