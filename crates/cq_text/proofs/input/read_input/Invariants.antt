use Rattle.std.proofs.Common.{◌≡◌, ◌≤◌, ◌<◌, length, false, true, IfSome}
use Rattle.std.specs.Io.KnownBytes.{Consumes}
use Rattle.cq_text.proofs.input.read_input.Given as goal

abbrev pub invariant-loop : goal.invariant-loop
invariant-loop g l = record {
  small : length l.bytes.items ≤ l.most;
  taken : l.is_too_long ≡ false → Consumes (g.R.Read.remaining l.initial.input) (g.R.Read.remaining l.input) l.bytes.items;
  long : l.is_too_long ≡ true → IfSome (g.R.Read.remaining l.initial.input) (λ all. l.most < length all);
}
