-- Which fault an error of clap becomes.
use Rattle.std.specs.Prelude.{◌≡◌, ◌≢◌, ⊤}
use Rattle.clap.specs.Words.{kind_of}
use Rattle.clap.specs.declared.error.Error.{Error}
use Rattle.clap.specs.declared.error.kind.ErrorKind.TheVariants as kind
use Rattle.cq_command_line.specs.declared.parsing.ParseFault.{ParseFault}
use Rattle.cq_command_line.specs.declared.parsing.ParseFault.TheVariants.{NotUnderstood, OutOfMemory, Version}

-- the error becomes this fault, which holds it: out of memory and the version have a fault of their own
abbrev pub IsFaultFor : ParseFault → Error → Type 0
IsFaultFor OutOfMemory error = kind_of error ≡ kind.OutOfMemory
IsFaultFor (Version own) error = (own ≡ error) × (kind_of error ≡ kind.DisplayVersion)
IsFaultFor (NotUnderstood own) error = (own ≡ error) × (kind_of error ≢ kind.OutOfMemory) × (kind_of error ≢ kind.DisplayVersion)

-- the error that the fault holds is of its kind
abbrev pub HasOwnKind : ParseFault → Type 0
HasOwnKind OutOfMemory = ⊤
HasOwnKind (Version error) = kind_of error ≡ kind.DisplayVersion
HasOwnKind (NotUnderstood error) = (kind_of error ≢ kind.OutOfMemory) × (kind_of error ≢ kind.DisplayVersion)
