use Rattle.std.proofs.Common.{rules}
use Rattle.cq_model.proofs.config.is_name_byte.Goals as goal

pub returns-in_default : goal.returns-in_default
returns-in_default c = search rules

pub returns-in-65-to-90 : goal.returns-in-65-to-90
returns-in-65-to-90 c = search rules
