-- A fault of the table, as contracts see it.
use Rattle.cq_advice.specs.Advice.{Fault}
use Rattle.cq_advice.specs.declared.faults.Fault as declared

-- the bytes that it has
abbrev pub fault_seen : declared.Fault → Fault
fault_seen fault = record { fixed = fault.fixed.now; text = fault.text.now; below = fault.below.now }
