use Rattle.std.proofs.Common.{◌∙◌, sym, rules}
use Rattle.cq_advice.proofs.AdviceLemmas.{holds-front}
use Rattle.cq_advice.proofs.faults.holds.Goals as goal

pub returns : goal.returns
returns c = holds-front c.loop-rest.rest.now c.args.part.now (search rules) ∙ c.loop-rest.invariant
