-- The queue of a race, and how its workers end.
use Rattle.std.specs.Prelude.{◌≡◌, ℕ, ◌*◌, [], IfOk, Result, Vec, vec_len}
use Rattle.cq_cycle.specs.declared.roll.Roll.TheVariants.{Daily}
use Rattle.cq_layout.specs.Shape.{measures}
use Rattle.cq_model.specs.Settings.{Settings, new_settings}
use Rattle.cq_text.specs.declared.fault.ToolFault.{ToolFault}
use Rattle.cq_text.specs.declared.fault.ToolFault.TheVariants as fault
use Rattle.cq_race.specs.declared.worker.Ending.{Ending}
use Rattle.cq_race.specs.declared.worker.Ending.TheVariants as ending

-- the settings of the queue of a race: one cycle of a day, from the epoch on
abbrev pub race_settings : Settings
race_settings = new_settings (measures 16384 64 1) 1 Daily 0 []

-- a reader that did not end early has read the messages of both writers, of which each appended so many
abbrev pub HasAll : {M E A : Type 0} → ℕ → Result (Vec M A) E → Type 0
HasAll count read = IfOk read (λ messages. vec_len messages ≡ 2 * count)

-- the fault that a worker's end is answered with
abbrev pub fault_of : Ending → ToolFault
fault_of ending.GaveUp = fault.GaveUp
fault_of ending.OutOfMemory = fault.OutOfMemory
