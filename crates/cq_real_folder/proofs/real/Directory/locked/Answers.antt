use Rattle.std.proofs.Common.{rules}
use Rattle.cq_real_folder.proofs.real.Directory.locked.Goals as goal

pub returns : goal.returns
returns g c = search rules
