use Rattle.std.proofs.Common.{◌≢◌, ◌<◌, ℕ, Some, slice_get}
use Rattle.cq_model.specs.Settings.{texts}
use Rattle.cq_model.proofs.config.Config.place_of.Given as goal

-- none of the names so far is the one that is sought
abbrev pub invariant-loop-place : goal.invariant-loop-place
invariant-loop-place l = (k : ℕ) → k < l.place → slice_get (texts l.names) k ≢ Some l.name
