use Rattle.std.proofs.Common.{rules}
use Rattle.linnetshelf.proofs.settings.config_of.Goals as goal

pub returns-in-Ok-new-clause-made : goal.returns-in-Ok-new-clause-made
returns-in-Ok-new-clause-made c = search rules
