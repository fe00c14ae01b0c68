use Rattle.std.proofs.Common.{arith, inl, inr, refl}
use Rattle.std.proofs.lemmas.Grind.{common_steps}
use Rattle.cq_text.proofs.input.read_input.Goals as goal

pub loop-preserved : goal.loop-preserved
loop-preserved g c = grind (arith, common_steps)

pub returns-in-Ok-eq0 : goal.returns-in-Ok-eq0
returns-in-Ok-eq0 g c =
    record { bytes = tt; whole = tt; small = tt; fault = inr (inr (refl, c.loop.invariant.long c.if-is_too_long.true)) }

pub returns-in-Err-2 : goal.returns-in-Err-2
returns-in-Err-2 g c = record { bytes = tt; whole = tt; small = tt; fault = inr (inl refl) }

pub returns : goal.returns
returns g c = record { bytes = tt; whole = tt; small = tt; fault = inr (inl refl) }
