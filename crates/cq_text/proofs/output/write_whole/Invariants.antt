use Rattle.std.proofs.Common.{◌≡◌, ℕ, drop, take}
use Rattle.std.specs.Io.KnownBytes.{Appends}
use Rattle.cq_text.proofs.output.write_whole.Given as goal

-- so many bytes of the text were written, and the rest stands behind them
abbrev pub invariant-loop : goal.invariant-loop
invariant-loop g l = (count : ℕ) × (l.rest ≡ drop count l.text)
    × Appends (g.W.Write.contents l.initial.output) (g.W.Write.contents l.output) (take count l.text)
