use Rattle.std.proofs.Common.{rules}
use Rattle.cq_saved.proofs.Snapshots.{is_snapshot, zeros_for}
use Rattle.cq_saved.proofs.saved.Saved.snapshot.Goals as goal

pub returns-clause-ok : goal.returns-clause-ok
returns-clause-ok c =
    is_snapshot c.args.endpoint.now c.snapshot.new.self c.in_ok-config.config c.new.result c.new-2.result
    (search rules) (search rules)
    (zeros_for c.names.result.now c.in_ok-config.config.names c.new-2.result c.names.ensures.value (search rules))
