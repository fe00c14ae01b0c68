-- What the calls answer that name cycles.
use Rattle.std.specs.Prelude.{ℕ, Result, Ok, Err}
use Rattle.cq_foreign.specs.declared.copying.Copied.{Copied}
use Rattle.cq_foreign.specs.declared.cycles.CycleFault.{CycleFault}
use Rattle.cq_foreign.specs.declared.cycles.CycleFault.TheVariants as fault
use Rattle.linnetshelf.specs.Answers.{done, plain}
use Rattle.linnetshelf.specs.Told.{copied_answer}
use Rattle.linnetshelf.specs.declared.answer.Answer.{Answer}
use Rattle.linnetshelf.specs.declared.status.Status.{Status}
use Rattle.linnetshelf.specs.declared.status.Status.TheVariants as status

-- why there is no such cycle; a call has its own status for that no queue has one
abbrev pub cycle_status : Status → CycleFault → Status
cycle_status none fault.NoSuchRoll = status.BadSettings
cycle_status none fault.NoSuchCycle = none
cycle_status none fault.OutOfMemory = status.OutOfMemory

-- what `cycle_of` answers
abbrev pub moment_answer : Result ℕ CycleFault → Answer
moment_answer (Ok cycle) = done cycle
moment_answer (Err cause) = plain (cycle_status status.BadMoment cause)

-- what `cycle_named` answers
abbrev pub named_answer : Result ℕ CycleFault → Answer
named_answer (Ok cycle) = done cycle
named_answer (Err cause) = plain (cycle_status status.NoSuchPlace cause)

-- what `cycle_name` answers
abbrev pub name_answer : Result Copied CycleFault → Answer
name_answer (Ok came) = copied_answer came
name_answer (Err cause) = plain (cycle_status status.NoSuchPlace cause)
