use Rattle.std.proofs.Common.{◌≡◌, map, take, string_bytes}
use Rattle.cq_command_line.proofs.orders.texts.Given as goal

abbrev pub invariant-loop-text : goal.invariant-loop-text
invariant-loop-text l = map string_bytes l.texts.items ≡ map (λ text. text.now) (take l.text-index l.given)
