use Rattle.std.proofs.Common.{refl}
use Rattle.cq_folder.proofs.failing.FailingCall.new.Goals as goal

pub returns : goal.returns
returns c = refl
