use Rattle.std.proofs.Common.{rules}
use Rattle.linnetshelf.proofs.closing.linnetshelf_close.Goals as goal

pub returns-in-Endpoint : goal.returns-in-Endpoint
returns-in-Endpoint c = search rules
