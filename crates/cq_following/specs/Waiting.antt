-- What a take does that waits for messages.
use Rattle.std.specs.Prelude.{◌⊎◌, ℕ, List, Option, Result, IfErr, IfOk, IfSome}
use Rattle.std.specs.Io.KnownBytes.{Keeps}
use Rattle.cq_folder.specs.Folder.{Files, KeepsFiles}
use Rattle.cq_orders.specs.declared.settings.TakeSettings.{TakeSettings}
use Rattle.cq_text.specs.declared.fault.ToolFault.{ToolFault}
use Rattle.cq_files.specs.Printing.{SavesAndPrints, TellsConfig}
use Rattle.cq_commands.specs.TakenBy.{IsTakeByFault, IsTakenBy, TakesVersionBy, TellsTook, most_of}
use Rattle.cq_commands.specs.declared.taking_by.Took.{Took}

-- what one call of a take does
pub record TakesNow (settings : TakeSettings) (name : List ℕ) (before after : Option Files) (old new : Option (List ℕ))
    (result : Result Took ToolFault) : Type 0 where
  pub saved : SavesAndPrints before after old new (IsTakenBy settings.peek (most_of settings) name before after) result
  pub took : IfOk result (TellsTook old new (IsTakenBy settings.peek (most_of settings) name before after))
  pub cause : IfErr result (λ fault. IfSome before (λ files. IsTakeByFault settings.peek name files fault))
  pub told : IfErr result (λ fault. KeepsFiles before after ⊎ TellsConfig fault)
  pub version : TakesVersionBy settings.peek before result

-- no file has changed and nothing is written, and then a call of a take is made
pub record TakesAtLast (settings : TakeSettings) (name : List ℕ) (before after : Option Files) (old new : Option (List ℕ))
    (result : Result Took ToolFault) : Type 0 where
  pub files : Option Files
  pub kept : KeepsFiles before files
  pub output : Option (List ℕ)
  pub unwritten : Keeps old output
  pub last : TakesNow settings name files after output new result
