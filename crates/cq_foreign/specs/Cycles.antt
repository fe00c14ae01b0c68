-- Cycles of moments and of names, by the number of their roll.
use Rattle.std.specs.Prelude.{◌≡◌, ◌⊎◌, ℕ, List, Result, Ok, Err}
use Rattle.std.specs.Str.{IsUtf8}
use Rattle.cq_cycle.specs.Cycle.{HasCycle, IsMoment, cycle_of}
use Rattle.cq_cycle.specs.Name.{IsName, NamesNoCycle}
use Rattle.cq_cycle.specs.declared.roll.Roll.{Roll}
use Rattle.cq_foreign.specs.Copies.{CopiesBytes}
use Rattle.cq_foreign.specs.Rolls.{ByRoll, HasNoRoll}
use Rattle.cq_foreign.specs.declared.copying.Copied.{Copied}
use Rattle.cq_foreign.specs.declared.cycles.CycleFault.{CycleFault}
use Rattle.cq_foreign.specs.declared.cycles.CycleFault.TheVariants as fault

-- the cycle of a moment; or why there is none
abbrev pub FindsCycle : ℕ → ℕ → ℕ → Result ℕ CycleFault → Type 0
FindsCycle number epoch moment (Ok cycle) =
    ByRoll number (λ way. IsMoment way epoch moment × (cycle ≡ cycle_of way epoch moment))
FindsCycle number epoch moment (Err fault.NoSuchRoll) = HasNoRoll number
FindsCycle number epoch moment (Err fault.NoSuchCycle) = ByRoll number (λ way. ¬ IsMoment way epoch moment)
FindsCycle number epoch moment (Err fault.OutOfMemory) = ⊥

-- the cycle that these bytes name; or why there is none
abbrev pub NamesCycle : ℕ → ℕ → List ℕ → Result ℕ CycleFault → Type 0
NamesCycle number epoch name (Ok cycle) =
    ByRoll number (λ way. HasCycle way epoch cycle × IsName way epoch cycle name)
NamesCycle number epoch name (Err fault.NoSuchRoll) = HasNoRoll number
NamesCycle number epoch name (Err fault.NoSuchCycle) =
    ByRoll number (λ way. (¬ IsUtf8 name) ⊎ NamesNoCycle way epoch name)
NamesCycle number epoch name (Err fault.OutOfMemory) = ⊥

-- the name of a cycle that a queue may have was copied to a buffer, or not for want of room
pub record CopiesNameOf (epoch cycle : ℕ) (room full : List ℕ) (came : Copied) (way : Roll) : Type 0 where
  pub exists : HasCycle way epoch cycle
  pub name : List ℕ
  pub is_name : IsName way epoch cycle name
  pub copies : CopiesBytes name room full came

-- the name of a cycle was copied to a buffer; or why not, and the buffer is as it was
abbrev pub CopiesName : ℕ → ℕ → ℕ → List ℕ → List ℕ → Result Copied CycleFault → Type 0
CopiesName number epoch cycle room full (Ok came) = ByRoll number (CopiesNameOf epoch cycle room full came)
CopiesName number epoch cycle room full (Err fault.NoSuchRoll) = HasNoRoll number × (full ≡ room)
CopiesName number epoch cycle room full (Err fault.NoSuchCycle) =
    ByRoll number (λ way. ¬ HasCycle way epoch cycle) × (full ≡ room)
CopiesName number epoch cycle room full (Err fault.OutOfMemory) = full ≡ room
