use Rattle.std.proofs.Common.{length}
use Rattle.std.proofs.lemmas.Result.{on_ok_weaker}
use Rattle.cq_log_tests.proofs.Records.{allows_write, elapses, follows_write, loses_write}
use Rattle.cq_log_tests.specs.Changes.{IsWrite}
use Rattle.cq_log_tests.proofs.torn_file.TornFileDevice.write_at.Goals as goal

pub returns-clause-crash : goal.returns-clause-crash
returns-clause-crash c =
    follows_write c.args.at (length c.args.bytes.now) c.args.self.now.changes.items c.write-done.new.self.changes.items c.write-done.ensures.recorded

pub returns-clause-torn_too : goal.returns-clause-torn_too
returns-clause-torn_too c =
    on_ok_weaker c.write-done.result
    (λ added. allows_write c.args.at (length c.args.bytes.now) c.args.self.now.changes.items c.write-done.new.self.changes.items added)
    c.write-done.ensures.added

pub returns-clause-not_less : goal.returns-clause-not_less
returns-clause-not_less c =
    loses_write c.args.at (length c.args.bytes.now) c.args.self.now.changes.items c.write-done.new.self.changes.items c.write-done.ensures.recorded

pub returns-clause-time : goal.returns-clause-time
returns-clause-time c =
    elapses (IsWrite c.args.at (length c.args.bytes.now)) c.args.self.now.changes.items c.write-done.new.self.changes.items c.write-done.ensures.recorded
