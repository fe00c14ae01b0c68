use Rattle.std.proofs.Common.{rules}
use Rattle.linnetshelf.proofs.appending.linnetshelf_append.Goals as goal

pub returns-in-Endpoint : goal.returns-in-Endpoint
returns-in-Endpoint c = search rules
