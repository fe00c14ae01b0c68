-- Which faults come only where the folder counted a failure.
use Rattle.std.specs.Prelude.{◌≡◌, ◌⊎◌, ℕ, ◌<◌, ◌≤◌, ◌^◌, ◌-◌, IfErr, Result}
use Rattle.cq_text.specs.declared.fault.ToolFault.{ToolFault}
use Rattle.cq_text.specs.Faults.{IsDeviceFault}

-- a failure was counted, unless the count stands at its end
abbrev pub HasCounted : ℕ → ℕ → Type 0
HasCounted before now = (before < now) ⊎ (before ≡ 2 ^ 64 - 1)

-- the count of failures does not sink, and a fault of the device comes only where a failure was counted
pub record CountsFaults {T : Type 0} (before now : ℕ) (result : Result T ToolFault) : Type 0 where
  pub later : before ≤ now
  pub device : IfErr result (λ fault. IsDeviceFault fault → HasCounted before now)
