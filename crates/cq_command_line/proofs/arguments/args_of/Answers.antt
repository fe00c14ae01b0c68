use Rattle.std.proofs.Common.{subst}
use Rattle.std.proofs.lemmas.List.{take_all}
use Rattle.cq_command_line.specs.CommandLine.{FollowAll}
use Rattle.cq_command_line.proofs.CommandLemmas.{pushed}
use Rattle.cq_command_line.proofs.arguments.args_of.Goals as goal

pub loop-argument-preserved : goal.loop-argument-preserved
loop-argument-preserved c =
    let added = c.in_ok-push_arg.ensures in
    pushed _ c.loop-argument.args.items c.push_arg.new.args.items c.args.arguments.now c.loop-argument.argument-index added.0 _
    c.loop-argument-test.true added.1 c.loop-argument.invariant added.2

pub returns : goal.returns
returns c =
    subst (FollowAll c.loop-argument.args.items)
    (take_all c.loop-argument.argument-index c.args.arguments.now c.loop-argument-test.false) c.loop-argument.invariant
