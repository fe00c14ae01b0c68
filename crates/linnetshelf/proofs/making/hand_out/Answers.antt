use Rattle.std.proofs.Common.{rules}
use Rattle.linnetshelf.proofs.making.hand_out.Goals as goal

pub returns-in-Ok : goal.returns-in-Ok
returns-in-Ok c = search rules
