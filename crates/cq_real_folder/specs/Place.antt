-- The folder of a process, and what a call leaves of it.
use Rattle.std.specs.Prelude.{◌≡◌}
use Rattle.cq_real_folder.specs.declared.real.Directory.{Directory}

-- it is the same folder, for the same process
pub record IsSamePlace {R S : Type 0} (was now : Directory R S) : Type 0 where
  pub path : now.path ≡ was.path
  pub process : now.process ≡ was.process
