-- Which faults of the commands on files are answered.
use Rattle.std.specs.Prelude.{◌≡◌, ◌⊎◌, ℕ, List}
use Rattle.cq_model.specs.Settings.{Settings}
use Rattle.cq_folder.specs.Folder.{Files}
use Rattle.cq_files.specs.FolderFaults.{HasCause, IsFirstFault, IsImageFault, IsLookingFault, IsShowFault, IsSmall, IsUnreadFault}
use Rattle.cq_file_commands.specs.Dumped.{IsDumped}
use Rattle.cq_file_commands.specs.Salvaged.{IsSalvaged}
use Rattle.cq_text.specs.declared.fault.ToolFault.{ToolFault}
use Rattle.cq_text.specs.declared.fault.ToolFault.TheVariants.{ImagesAtFault, WriteFault}

-- why the records of a file are not printed: it is not read, or holds no image; else the lines are not written
abbrev pub IsRecordsFault : List ℕ → Settings → Files → ToolFault → Type 0
IsRecordsFault file settings files fault = (IsImageFault file fault × HasCause files fault)
    ⊎ ((fault ≡ WriteFault) × ((text : List ℕ) × IsDumped settings file text files))

-- why what is saved of a file is not printed: it is not read; else the lines are not written
abbrev pub IsMessagesFault : List ℕ → Settings → Files → ToolFault → Type 0
IsMessagesFault file settings files fault = IsUnreadFault file settings files fault
    ⊎ ((fault ≡ WriteFault) × ((text : List ℕ) × IsSalvaged settings file text files))

-- why a file is not dumped
abbrev pub IsDumpFault : List ℕ → Files → ToolFault → Type 0
IsDumpFault file files fault = IsShowFault (IsRecordsFault file) file files fault

-- why nothing is saved of a file
abbrev pub IsSalvageFault : List ℕ → Files → ToolFault → Type 0
IsSalvageFault file files fault = IsShowFault (IsMessagesFault file) file files fault

-- why images are not looked at: the first fault of their folder, their names and their files
abbrev pub IsChecksFault : Files → ToolFault → Type 0
IsChecksFault files fault = HasCause files fault × IsFirstFault IsSmall files fault × IsLookingFault fault

-- why images are not checked: one of them is at fault, they are not looked at, or the lines are not written
abbrev pub IsCheckFault : Files → ToolFault → Type 0
IsCheckFault files fault = (fault ≡ ImagesAtFault) ⊎ ((fault ≡ WriteFault) ⊎ IsChecksFault files fault)
