use Rattle.std.proofs.Common.{refl, rules}
use Rattle.cq_log.specs.Device.{Overwrites}
use Rattle.cq_log_tests.proofs.Records.{replay_write}
use Rattle.cq_log_tests.specs.declared.torn_file.Change.TheVariants.{Write}
use Rattle.cq_log_tests.proofs.torn_file.TornFile.record.Goals as goal

pub invariant_of-self-2 : goal.invariant_of-self-2
invariant_of-self-2 c =
    let self = c.args.self.now in
    let over : Overwrites self.file.items c.args.at c.args.bytes.items c.in_ok-next.next.items = search rules in
    record {
      replayed = replay_write self.changes.items c.push.new.self.items self.file.items c.in_ok-next.next.items c.args.at c.args.bytes
          self.replayed c.requires c.in_ok-push.ensures.items over;
    }

pub returns-clause-added : goal.returns-clause-added
returns-clause-added c = (Write c.args.at c.args.bytes, (c.args.bytes, refl, refl), c.in_ok-push.ensures.items)
