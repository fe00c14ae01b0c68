use Rattle.std.proofs.lemmas.Result.{on_ok_weaker}
use Rattle.cq_log_tests.proofs.Records.{allows_cut, elapses, follows_cut, loses_cut}
use Rattle.cq_log_tests.specs.Changes.{IsCut}
use Rattle.cq_log_tests.proofs.torn_file.TornFileDevice.cut.Goals as goal

pub returns-clause-crash : goal.returns-clause-crash
returns-clause-crash c = follows_cut c.args.len c.args.self.now.changes.items c.cut_to-done.new.self.changes.items c.cut_to-done.ensures.recorded

pub returns-clause-torn_too : goal.returns-clause-torn_too
returns-clause-torn_too c =
    on_ok_weaker c.cut_to-done.result
    (λ added. allows_cut c.args.len c.args.self.now.changes.items c.cut_to-done.new.self.changes.items added)
    c.cut_to-done.ensures.added

pub returns-clause-not_less : goal.returns-clause-not_less
returns-clause-not_less c = loses_cut c.args.len c.args.self.now.changes.items c.cut_to-done.new.self.changes.items c.cut_to-done.ensures.recorded

pub returns-clause-time : goal.returns-clause-time
returns-clause-time c = elapses (IsCut c.args.len) c.args.self.now.changes.items c.cut_to-done.new.self.changes.items c.cut_to-done.ensures.recorded
