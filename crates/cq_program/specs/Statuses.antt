-- The exit status of a start of the program.
use Rattle.std.specs.Prelude.{◌≡◌, ◌⊎◌, ℕ, Result, Ok, Err}
use Rattle.cq_command_line.specs.declared.parsing.ParseFault.TheVariants as parse
use Rattle.cq_program.specs.declared.program.Outcome.{Outcome}
use Rattle.cq_program.specs.declared.program.Outcome.TheVariants as outcome
use Rattle.cq_program.specs.declared.fault.StartFault.{StartFault}
use Rattle.cq_program.specs.declared.starting.Unread.{Unread}
use Rattle.cq_program.specs.declared.starting.Unread.TheVariants.{NoText, NoOrder}
use Rattle.cq_program.specs.declared.starting.TheConstants.{DONE, FAULT, NOT_UNDERSTOOD, NOTHING}

-- the status for what a command came to
abbrev pub status_of : Result Outcome StartFault → ℕ
status_of (Ok outcome.Done) = DONE
status_of (Ok outcome.Nothing) = NOTHING
status_of (Err fault) = FAULT

-- a status for words that are no order. The version is printed if it was asked for
abbrev pub IsStatusFor : Unread → ℕ → Type 0
IsStatusFor NoText status = status ≡ NOT_UNDERSTOOD
IsStatusFor (NoOrder (parse.NotUnderstood error)) status = status ≡ NOT_UNDERSTOOD
IsStatusFor (NoOrder (parse.Version text)) status = (status ≡ DONE) ⊎ (status ≡ FAULT)
IsStatusFor (NoOrder parse.OutOfMemory) status = status ≡ FAULT

-- it is one of the four statuses
abbrev pub IsStatus : ℕ → Type 0
IsStatus status = (status ≡ DONE) ⊎ ((status ≡ FAULT) ⊎ ((status ≡ NOT_UNDERSTOOD) ⊎ (status ≡ NOTHING)))
