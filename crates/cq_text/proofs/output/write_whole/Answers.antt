use Rattle.std.proofs.Common.{ℕ, Bor, List, ap, ◌∙◌}
use Rattle.std.proofs.KnownBytes.{Appends-kept}
use Rattle.cq_text.proofs.OutputLemmas.{one_written}
use Rattle.cq_text.proofs.output.write_whole.Goals as goal
use Rattle.cq_text.proofs.output.write_whole.Goals.{in-Ok, in-Err}

pub loop-preserved : goal.loop-preserved
loop-preserved g c =
    let (count, split, before) = c.loop.invariant in
    elim c.match-write.branch [
      | in-Ok w ↦ one_written _ _ _ c.args.text.now c.loop.rest.now c.match-write.rest.now count w.in-Ok.count split
          (ap (λ (rest : Bor (List ℕ)). rest.now) w.rest-is) before w.in-Ok.ensures.bytes
      | in-Err w ↦ (
        count,
        ap (λ (rest : Bor (List ℕ)). rest.now) w.rest-is ∙ split,
        Appends-kept _ _ _ _ before w.in-Err.ensures.bytes,
      )
    ]
