use Rattle.std.proofs.Common.{take}
use Rattle.cq_command_line.specs.CommandLine.{FollowAll}
use Rattle.cq_command_line.proofs.arguments.args_of.Given as goal

abbrev pub invariant-loop-argument : goal.invariant-loop-argument
invariant-loop-argument l = FollowAll l.args.items (take l.argument-index l.arguments)
