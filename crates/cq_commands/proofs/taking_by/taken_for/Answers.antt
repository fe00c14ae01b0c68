use Rattle.cq_model.specs.Settings.{Declares}
use Rattle.cq_commands.proofs.TakenLinesLemmas.{nothing_begun, unheld}
use Rattle.cq_commands.proofs.taking_by.taken_for.Goals as goal

pub returns-clause-taken : goal.returns-clause-taken
returns-clause-taken c contents paired openable holds =
    let settings = c.args.queue.config in
    let declared : Declares settings c.args.name.now = c.declares.ensures.declared.0 c.if-not-declares.false in
    nothing_begun settings contents c.args.name.now c.args.most paired (unheld settings contents c.args.queue.held c.in-None.is holds) declared
