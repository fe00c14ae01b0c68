use Rattle.std.proofs.Common.{rules}
use Rattle.cq_endpoint.proofs.endpoint.Endpoint.seek.Goals as goal

pub returns-then-seen_end-to-clause-err : goal.returns-then-seen_end-to-clause-err
returns-then-seen_end-to-clause-err c = search rules
