use Rattle.std.proofs.Common.{rules}
use Rattle.cq_folder.proofs.storage.fault_of.Goals as goal

pub returns-clause-device : goal.returns-clause-device
returns-clause-device c = search rules
