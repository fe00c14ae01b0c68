use Rattle.std.proofs.Common.{rules}
use Rattle.cq_folder.proofs.memory.MemoryFolderFolder.read.Goals as goal

pub returns-in_ok-from_slice-in-Some-2-clause-small : goal.returns-in_ok-from_slice-in-Some-2-clause-small
returns-in_ok-from_slice-in-Some-2-clause-small c = search rules
