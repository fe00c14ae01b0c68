-- Faults that are passed on.
use Rattle.std.proofs.Common.{◌≡◌, subst, sym}
use Rattle.std.specs.Prelude.{Result, Ok, Err, IfErr, IsErrAnd}
use Rattle.cq_text.specs.declared.fault.ToolFault.{ToolFault}
use Rattle.cq_text.specs.declared.fault.ToolFault.TheVariants.{WriteFault}

-- a fault that is passed on is the one that it was
pub passed_on : {T : Type 0} (result : Result T ToolFault) (P : ToolFault → Type 0) (fault : ToolFault)
    → IsErrAnd result (λ passed. passed ≡ fault) → P fault → IfErr result P
passed_on (Ok value) P fault is holds = tt
passed_on (Err passed) P fault is holds = subst P (sym is) holds

-- what holds of a fault of printing holds of each fault of a command that does nothing else
pub only_printing : {T : Type 0} (result : Result T ToolFault) (P : ToolFault → Type 0) → P WriteFault
    → IfErr result (λ fault. fault ≡ WriteFault) → IfErr result P
only_printing (Ok value) P holds is = tt
only_printing (Err fault) P holds is = subst P (sym is) holds
