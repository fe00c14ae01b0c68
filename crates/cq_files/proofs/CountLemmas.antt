-- Which failures of a folder were counted, over several calls.
use Rattle.std.proofs.Common.{◌≡◌, ◌⊎◌, ℕ, ◌<◌, ◌≤◌, arith, inl, inr, subst}
use Rattle.std.proofs.lemmas.Bool.{cases_lt}
use Rattle.std.specs.Prelude.{Err, IfErr, IsErrAnd, Ok, Result}
use Rattle.cq_text.specs.declared.fault.ToolFault.{ToolFault}
use Rattle.cq_text.specs.declared.fault.ToolFault.TheVariants.{OutOfMemory, WriteFault}
use Rattle.cq_text.specs.Faults.{IsDeviceFault}
use Rattle.cq_files.specs.Counted.{CountsFaults, HasCounted}

-- what was counted behind a call was counted from before it on
pub counted_from : (before middle now : ℕ) → before ≤ middle → middle ≤ now → HasCounted middle now → HasCounted before now
counted_from before middle now low high (inl more) = inl (omega (arith, low, more))
counted_from before middle now low high (inr full) = by_order (cases_lt before middle)
  where
    by_order : (before < middle) ⊎ (middle ≤ before) → HasCounted before now
    by_order (inl less) = inl (omega (arith, less, high))
    by_order (inr same) = inr (omega (arith, low, same, full))

-- the same of a result
pub counts_from : {T : Type 0} (before middle now : ℕ) (result : Result T ToolFault) → before ≤ middle
    → CountsFaults middle now result → CountsFaults before now result
counts_from before middle now (Ok value) low counts = record { later = omega (arith, low, counts.later); device = tt }
counts_from before middle now (Err fault) low counts = record {
  later = omega (arith, low, counts.later);
  device = λ is. counted_from before middle now low counts.later (counts.device is);
}

-- a fault that is passed on counts as the one that it was
pub counts_passed : {T U : Type 0} (before now : ℕ) (fault : ToolFault) (result : Result U ToolFault)
    → CountsFaults {T = T} before now (Err fault) → IsErrAnd result (λ passed. passed ≡ fault) → CountsFaults before now result
counts_passed before now fault (Ok value) counts is = record { later = counts.later; device = tt }
counts_passed before now fault (Err passed) counts is = record {
  later = counts.later;
  device = λ device. counts.device (subst IsDeviceFault is device);
}

-- want of memory that is passed on
pub counts_scarce : {T : Type 0} (before now : ℕ) (result : Result T ToolFault) → before ≤ now
    → IsErrAnd result (λ passed. passed ≡ OutOfMemory) → CountsFaults before now result
counts_scarce before now (Ok value) later is = record { later = later; device = tt }
counts_scarce before now (Err fault) later is = record { later = later; device = λ device. absurd (subst IsDeviceFault is device) }

-- a fault that is none of the device, and is passed on
pub counts_other : {T : Type 0} (before now : ℕ) (fault : ToolFault) (result : Result T ToolFault) → before ≤ now
    → ¬ IsDeviceFault fault → IsErrAnd result (λ passed. passed ≡ fault) → CountsFaults before now result
counts_other before now fault (Ok value) later other is = record { later = later; device = tt }
counts_other before now fault (Err passed) later other is =
    record { later = later; device = λ device. absurd (other (subst IsDeviceFault is device)) }

-- a fault that is none of the device needs no count
pub uncounted : {T : Type 0} {before now : ℕ} {fault : ToolFault} → before ≤ now → ¬ IsDeviceFault fault
    → CountsFaults {T = T} before now (Err fault)
uncounted later other = record { later = later; device = λ device. absurd (other device) }

-- a fault of the writer
pub counts_printed : {T : Type 0} (before now : ℕ) (result : Result T ToolFault) → before ≤ now
    → IfErr result (λ fault. fault ≡ WriteFault) → CountsFaults before now result
counts_printed before now (Ok value) later is = record { later = later; device = tt }
counts_printed before now (Err fault) later is = record { later = later; device = λ device. absurd (subst IsDeviceFault is device) }
