use Rattle.std.proofs.Common.{rules}
use Rattle.cq_model.proofs.config.Config.copied.Goals as goal

pub returns : goal.returns
returns c = search rules
