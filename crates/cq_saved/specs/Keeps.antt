-- Why no queue was opened with a keeper.
use Rattle.std.specs.Prelude.{◌≤◌, ◌-◌, ◌^◌, ⊤, length}
use Rattle.cq_kept.specs.Openings.{first_frame}
use Rattle.cq_kept.specs.declared.fault.OpenFault.{OpenFault}
use Rattle.cq_kept.specs.declared.fault.OpenFault.TheVariants.{BadContents, Failed, LongHead, OutOfMemory}
use Rattle.cq_saved.specs.Saved.{CanOpen, SavedFacts}

abbrev pub IsKeepFault : SavedFacts → OpenFault → Type 0
IsKeepFault saved BadContents = ¬ CanOpen saved
IsKeepFault saved OutOfMemory = ⊤
IsKeepFault saved LongHead = 2 ^ 32 - 1 ≤ length (first_frame saved.settings saved.contents)
IsKeepFault saved (Failed fault) = ⊥
