-- The cycle that a word means.
use Rattle.std.specs.Prelude.{◌≡◌, ℕ, List}
use Rattle.cq_cycle.specs.Index.{cycle_in}
use Rattle.cq_model.specs.Settings.{Settings}
use Rattle.cq_points.specs.Points.{MeansPoint}

-- the word means a cycle: that of the index that it means
pub record MeansCycle (settings : Settings) (word : List ℕ) (cycle : ℕ) : Type 0 where
  pub point : ℕ
  pub means : MeansPoint settings.roll settings.epoch word point
  pub cycle_is : cycle ≡ cycle_in point
