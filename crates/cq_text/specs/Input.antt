-- Why an input is not read.
use Rattle.std.specs.Prelude.{◌≡◌, ◌⊎◌, ◌<◌, ℕ, List, Option, IfSome, length}
use Rattle.cq_text.specs.declared.fault.ToolFault.{ToolFault}
use Rattle.cq_text.specs.declared.fault.ToolFault.TheVariants.{InputTooLong, OutOfMemory, ReadFault}

-- memory ran out, the reader failed or did not end, or it had more bytes than the most that are read
abbrev pub IsInputFault : ℕ → Option (List ℕ) → ToolFault → Type 0
IsInputFault most input fault = (fault ≡ OutOfMemory) ⊎ (fault ≡ ReadFault)
    ⊎ ((fault ≡ InputTooLong) × IfSome input (λ bytes. most < length bytes))
