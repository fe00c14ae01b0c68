use Rattle.std.proofs.Common.{◌≡◌}
use Rattle.cq_model.specs.Settings.{texts}
use Rattle.cq_trim.specs.Trimmed.{removed_files}
use Rattle.cq_trim.proofs.planning.names_below.Given as goal

-- the names of those below the floor so far
abbrev pub invariant-loop-image : goal.invariant-loop-image
invariant-loop-image l = texts l.names.items ≡ removed_files l.floor l.yielded
