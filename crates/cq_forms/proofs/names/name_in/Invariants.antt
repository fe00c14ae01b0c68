use Rattle.std.proofs.Common.{◌≡◌, drop}
use Rattle.cq_forms.specs.Names.{name_in}
use Rattle.cq_forms.proofs.names.name_in.Given as goal

-- none so far
abbrev pub invariant-loop-named : goal.invariant-loop-named
invariant-loop-named l = name_in (drop l.named-index l.names) l.cycle ≡ name_in l.names l.cycle
