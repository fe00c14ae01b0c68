use Rattle.std.proofs.Common.{rules}
use Rattle.cq_file_commands.proofs.migrating.image_in.Goals as goal

pub returns-clause-bytes : goal.returns-clause-bytes
returns-clause-bytes c = search rules
