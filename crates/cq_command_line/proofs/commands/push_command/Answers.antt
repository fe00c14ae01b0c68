use Rattle.cq_command_line.proofs.commands.push_command.Goals as goal

pub returns : goal.returns
returns c = (c.in_ok-command.field-0, c.in_ok-push.ensures.items, c.in_ok-command.ensures)
