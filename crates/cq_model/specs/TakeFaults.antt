-- What takes are refused for.
use Rattle.std.specs.Prelude.{ℕ, List, codes}
use Rattle.cq_model.specs.declared.take_fault.TakeFault.{TakeFault}
use Rattle.cq_model.specs.declared.take_fault.TakeFault.TheVariants as fault

-- what a fault is called
abbrev pub fault_name : TakeFault → List ℕ
fault_name fault.NoSuchName = codes "NoSuchName"
fault_name fault.OutOfMemory = codes "OutOfMemory"
