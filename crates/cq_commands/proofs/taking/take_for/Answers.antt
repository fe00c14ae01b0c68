use Rattle.cq_model.specs.Settings.{Declares}
use Rattle.cq_commands.proofs.TakenLinesLemmas.{none_begun, unheld}
use Rattle.cq_commands.proofs.taking.take_for.Goals as goal

pub returns-in-None-clause-taken : goal.returns-in-None-clause-taken
returns-in-None-clause-taken c contents paired openable holds =
    let settings = c.args.queue.config in
    let declared : Declares settings c.args.name.now = c.declares.ensures.declared.0 c.if-declares.true in
    none_begun settings contents c.args.name.now paired (unheld settings contents c.args.queue.held c.in-None.is holds) declared
