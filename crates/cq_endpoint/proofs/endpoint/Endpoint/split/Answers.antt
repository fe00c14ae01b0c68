use Rattle.std.proofs.Common.{rules}
use Rattle.cq_endpoint.proofs.endpoint.Endpoint.split.Goals as goal

pub returns-clause-made : goal.returns-clause-made
returns-clause-made c = search rules

pub returns-clause-parent : goal.returns-clause-parent
returns-clause-parent c = search rules
