use Rattle.std.proofs.Common.{IsTrue}
use Rattle.cq_race.proofs.WithinLemmas.{counted-more, counted-same}
use Rattle.cq_race.proofs.tally.counted.Goals as goal

pub returns-then-is_message : goal.returns-then-is_message
returns-then-is_message c read counted =
    let stands = c.is_message.ensures.0 c.if-is_message.true in
    counted-more _ _ _ _ counted stands.0 stands.1

pub returns-else-is_message : goal.returns-else-is_message
returns-else-is_message c read counted =
    counted-same _ _ _ _ counted
    (λ low found. let stands : IsTrue c.is_message.result = c.is_message.ensures.1 (low, found) in let fails = c.if-is_message.false in absurd (cc))
