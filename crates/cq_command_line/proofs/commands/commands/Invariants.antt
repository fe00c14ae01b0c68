use Rattle.std.proofs.Common.{take}
use Rattle.cq_command_line.specs.CommandLine.{MakesAll}
use Rattle.cq_command_line.proofs.commands.commands.Given as goal

abbrev pub invariant-loop-description : goal.invariant-loop-description
invariant-loop-description l = MakesAll l.commands.items (take l.description-index l.descriptions)
