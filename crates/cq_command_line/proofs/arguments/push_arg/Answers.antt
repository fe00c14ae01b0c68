use Rattle.cq_command_line.proofs.arguments.push_arg.Goals as goal

pub returns : goal.returns
returns c = (c.in_ok-arg.field-0, c.in_ok-push.ensures.items, c.in_ok-arg.ensures)
