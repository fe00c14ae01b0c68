use Rattle.std.proofs.Common.{◌∙◌}
use Rattle.cq_log_tests.proofs.Records.{replay_cut}
use Rattle.cq_log_tests.proofs.torn_file.TornFile.cut_to.Goals as goal

pub invariant_of-self-2 : goal.invariant_of-self-2
invariant_of-self-2 c =
    let counted = c.count-is_failing.new.self in
    record {
      replayed = c.truncate.ensures.items ∙ replay_cut counted.changes.items c.push.new.self.items counted.file.items c.args.len counted.replayed c.in_ok-push.ensures.items;
    }
