use Rattle.std.proofs.Common.{◌≡◌, ap, inr, length, rules}
use Rattle.std.proofs.lemmas.Result.{on_ok_weaker}
use Rattle.cq_log_tests.proofs.Records.{added_here, adds_here, either}
use Rattle.cq_log_tests.proofs.torn_file.TornFile.write.Goals as goal

pub returns-then-count-clause-recorded : goal.returns-then-count-clause-recorded
returns-then-count-clause-recorded c =
    inr
    (added_here c.args.at (length c.args.bytes.now) (length c.in_ok-written.written.items) c.args.self.now.changes.items c.count.new.self.changes.items c.record.new.self.changes.items
    c.in_ok-written.ensures (ap (λ v. v.items) c.count.ensures.same.1) c.in_ok-record.ensures.added)

pub returns-clause-added : goal.returns-clause-added
returns-clause-added c =
    let long : length c.in_ok-written-2.written.items ≡ length c.args.bytes.now = search rules in
    on_ok_weaker c.record-2.result
    (added_here c.args.at (length c.args.bytes.now) (length c.in_ok-written-2.written.items) c.args.self.now.changes.items c.count.new.self.changes.items c.record-2.new.self.changes.items
    long (ap (λ v. v.items) c.count.ensures.same.1))
    c.record-2.ensures.added

pub returns-clause-recorded : goal.returns-clause-recorded
returns-clause-recorded c =
    let long : length c.in_ok-written-2.written.items ≡ length c.args.bytes.now = search rules in
    adds_here c.args.at (length c.args.bytes.now) (length c.in_ok-written-2.written.items) c.args.self.now.changes.items c.count.new.self.changes.items c.record-2.new.self.changes.items
    long (ap (λ v. v.items) c.count.ensures.same.1)
    (either c.record-2.result _ _ c.record-2.ensures.added c.record-2.ensures.unchanged)
