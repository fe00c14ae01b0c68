use Rattle.std.proofs.Common.{subst}
use Rattle.std.proofs.lemmas.Result.{IfOk-weaker}
use Rattle.cq_command_line.specs.CommandLine.{Makes, program}
use Rattle.cq_command_line.proofs.CommandLemmas.{made-with_commands}
use Rattle.cq_command_line.proofs.command_line.command_line.Goals as goal

pub returns : goal.returns
returns c =
    IfOk-weaker c.subcommands.result _ _
    (λ command adds. subst (Makes command) c.descriptions.ensures (made-with_commands _ _ _ _ program adds c.program.ensures c.in_ok-commands.ensures))
    c.subcommands.ensures
