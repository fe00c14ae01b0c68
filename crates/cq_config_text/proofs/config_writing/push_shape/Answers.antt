use Rattle.std.proofs.Common.{rules}
use Rattle.cq_config_text.proofs.config_writing.push_shape.Goals as goal

pub returns : goal.returns
returns c = search rules
