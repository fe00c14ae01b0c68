use Rattle.std.proofs.lemmas.Result.{IfOk-weaker}
use Rattle.cq_command_line.proofs.CommandLemmas.{made-with_arguments}
use Rattle.cq_command_line.proofs.commands.command.Goals as goal

pub returns : goal.returns
returns c =
    IfOk-weaker c.args-2.result _ _ (λ command adds. made-with_arguments _ _ _ _ _ adds c.without_arguments.ensures c.in_ok-args.ensures) c.args-2.ensures
