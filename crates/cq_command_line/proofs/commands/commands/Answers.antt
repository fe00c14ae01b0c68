use Rattle.std.proofs.Common.{subst}
use Rattle.std.proofs.lemmas.List.{take_all}
use Rattle.cq_command_line.specs.CommandLine.{MakesAll}
use Rattle.cq_command_line.proofs.CommandLemmas.{pushed}
use Rattle.cq_command_line.proofs.commands.commands.Goals as goal

pub loop-description-preserved : goal.loop-description-preserved
loop-description-preserved c =
    let added = c.in_ok-push_command.ensures in
    pushed _ c.loop-description.commands.items c.push_command.new.commands.items c.args.descriptions.now c.loop-description.description-index added.0 _
    c.loop-description-test.true added.1 c.loop-description.invariant added.2

pub returns : goal.returns
returns c =
    subst (MakesAll c.loop-description.commands.items)
    (take_all c.loop-description.description-index c.args.descriptions.now c.loop-description-test.false) c.loop-description.invariant
