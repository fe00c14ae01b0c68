use Rattle.std.proofs.Common.{rules}
use Rattle.linnetshelf.proofs.rooms.at_answer.Goals as goal

pub returns-in-Message : goal.returns-in-Message
returns-in-Message c = search rules
