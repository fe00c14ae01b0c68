-- Why nothing is said of a queue.
use Rattle.std.specs.Prelude.{◌≡◌, ◌⊎◌, ℕ, List, Bool, Some}
use Rattle.cq_folder.specs.Folder.{Files}
use Rattle.cq_text.specs.declared.fault.ToolFault.{ToolFault}
use Rattle.cq_text.specs.declared.fault.ToolFault.TheVariants.{WriteFault}
use Rattle.cq_files.specs.Openable.{IsOpenFault}
use Rattle.cq_stat.specs.StatOut.{IsStatOut}

-- the queue is not opened; else the text is not written
abbrev pub IsStatFault : Bool → Files → ToolFault → Type 0
IsStatFault json files fault = IsOpenFault files fault
    ⊎ ((fault ≡ WriteFault) × ((text : List ℕ) × IsStatOut json (Some files) text))
