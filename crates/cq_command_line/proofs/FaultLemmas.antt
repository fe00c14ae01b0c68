-- Which fault an error of clap becomes.
use Rattle.std.proofs.Common.{◌≢◌, ◌∙◌, ap, subst, sym}
use Rattle.clap.specs.Words.{kind_of}
use Rattle.clap.specs.declared.error.Error.{Error}
use Rattle.clap.specs.declared.error.kind.ErrorKind.TheVariants as kind
use Rattle.cq_command_line.specs.Faults.{HasOwnKind, IsFaultFor}
use Rattle.cq_command_line.specs.declared.parsing.ParseFault.{ParseFault}
use Rattle.cq_command_line.specs.declared.parsing.ParseFault.TheVariants as variant

-- a fault holds an error of its kind
pub own_kind : (fault : ParseFault) (error : Error) → IsFaultFor fault error → HasOwnKind fault
own_kind variant.OutOfMemory error it = tt
own_kind (variant.Version own) error it = ap kind_of it.0 ∙ it.1
own_kind (variant.NotUnderstood own) error it = (
  subst (λ other. kind_of other ≢ kind.OutOfMemory) (sym it.0) it.1,
  subst (λ other. kind_of other ≢ kind.DisplayVersion) (sym it.0) it.2,
)
