-- Cycles and the moments that lie in them.
use Rattle.std.proofs.Common.{◌≡◌, ℕ, ◌+◌, ◌<◌, ◌≤◌, arith}
use Rattle.cq_cycle.specs.declared.roll.Roll.{Roll}
use Rattle.cq_cycle.specs.declared.roll.Roll.TheVariants.{Daily, Hourly, Minutely}
use Rattle.cq_cycle.specs.Cycle.{cycle_of, length_of, start_of}

-- a moment lies in the cycle that begins at or before it and ends after it
pub cycle_of-between : (roll : Roll) (epoch cycle moment : ℕ) → start_of roll epoch cycle ≤ moment
    → moment < start_of roll epoch cycle + length_of roll → cycle_of roll epoch moment ≡ cycle
cycle_of-between Daily epoch cycle moment begun not_over = omega arith
cycle_of-between Hourly epoch cycle moment begun not_over = omega arith
cycle_of-between Minutely epoch cycle moment begun not_over = omega arith
