-- What carrying out an order does, and why it is not done.
use Rattle.std.specs.Prelude.{◌≡◌, ◌≢◌, ◌⊎◌, ⊤, Bool, ℕ, List, Option, None, Result, IfErr, IfSome, OnOk, false, string_bytes, true}
use Rattle.std.specs.Io.KnownBytes.{Appends, Consumes, IsAtEnd, Keeps}
use Rattle.cq_folder.specs.Folder.{Files, KeepsFiles, WritesFile}
use Rattle.cq_folder.specs.declared.names.TheConstants.{CONFIG_FILE}
use Rattle.cq_orders.specs.declared.order.Order.{Order}
use Rattle.cq_orders.specs.declared.order.Order.TheVariants.{Echo, Cycle, Init, Write, Read, Take, Check, Stat, Dump, Salvage, DropBefore, Migrate}
use Rattle.cq_file_commands.specs.CheckText.{IsChecked}
use Rattle.cq_files.specs.FolderFaults.{HoldsConfig, MindsVersion}
use Rattle.cq_file_commands.specs.FileFaults.{IsCheckFault, IsDumpFault, IsSalvageFault}
use Rattle.cq_text.specs.declared.fault.ToolFault.{ToolFault}
use Rattle.cq_text.specs.declared.fault.ToolFault.TheVariants.{ImagesAtFault, OldVersion, WriteFault}
use Rattle.cq_text.specs.CycleLine.{HasCause, IsCycleLine}
use Rattle.cq_file_commands.specs.Dumped.{IsDumpedQueue}
use Rattle.cq_file_commands.specs.Migrated.{IsMigrateFault, IsMigrated, IsMoved, TellsMoved}
use Rattle.cq_file_commands.specs.Salvaged.{IsSalvagedQueue}
use Rattle.cq_text.specs.Echo.{IsEchoFault, echo_fault, echo_text}
use Rattle.cq_file_commands.specs.Initialised.{IsInitFault, IsInitialText, IsNew}
use Rattle.cq_text.specs.Lines.{input_lines}
use Rattle.cq_text.specs.Output.{AppendsBeginning}
use Rattle.cq_commands.specs.Dropped.{IsDropFault, IsDropped}
use Rattle.cq_commands.specs.Messages.{IsReadOut}
use Rattle.cq_commands.specs.QueueFaults.{IsReadFault, IsTakeFault}
use Rattle.cq_commands.specs.Taken.{IsTaken}
use Rattle.cq_writing.specs.WriteFaults.{IsWriteFault, TellsWritten}
use Rattle.cq_files.specs.Saving.{KeepsOrSaves}
use Rattle.cq_stat.specs.StatFaults.{IsStatFault}
use Rattle.cq_stat.specs.StatOut.{IsStatOut}
use Rattle.cq_writing.specs.Written.{IsWrittenFrom}
use Rattle.cq_files.specs.Printing.{TellsConfig}

-- what is known of the folder's files, of what the reader has left and of what was written, before and after
pub record Streams : Type 0 where
  pub files : Option Files
  pub files_after : Option Files
  pub input : Option (List ℕ)
  pub input_after : Option (List ℕ)
  pub output : Option (List ℕ)
  pub output_after : Option (List ℕ)

-- the same, each in its place
abbrev pub streams : Option Files → Option Files → Option (List ℕ) → Option (List ℕ) → Option (List ℕ) → Option (List ℕ)
    → Streams
streams files files_after input input_after output output_after = record {
  files = files;
  files_after = files_after;
  input = input;
  input_after = input_after;
  output = output;
  output_after = output_after;
}

-- what was written and what that text is
abbrev pub Writes : Streams → (List ℕ → Type 0) → Type 0
Writes s IsText = (text : List ℕ) × IsText text × Appends s.output s.output_after text

-- the same, and no file changed
abbrev pub Prints : Streams → (List ℕ → Type 0) → Type 0
Prints s IsText = KeepsFiles s.files s.files_after × Writes s IsText

-- the order, which is for one caller and ends with its input, is carried out
abbrev pub IsDone : Order → Streams → Type 0
IsDone Echo s = KeepsFiles s.files s.files_after × IsAtEnd s.input_after
    × ((bytes : List ℕ) × Consumes s.input s.input_after bytes)
    × IfSome s.input (λ bytes. (echo_fault bytes ≡ None) × Appends s.output s.output_after (echo_text (input_lines bytes)))
IsDone (Cycle roll epoch moment) s = Prints s (IsCycleLine (string_bytes roll) epoch moment)
IsDone (Init folder settings) s = IsNew s.files
    × ((text : List ℕ) × IsInitialText settings text × WritesFile s.files s.files_after CONFIG_FILE.now text)
    × Keeps s.output s.output_after
IsDone (Write folder moment) s = Writes s (IsWrittenFrom moment s.files s.files_after s.input s.input_after)
IsDone (Read folder settings) s = Prints s (IsReadOut settings s.files)
IsDone (Take folder name) s = Writes s (IsTaken (string_bytes name) s.files s.files_after)
IsDone (DropBefore folder cycle) s = Writes s (IsDropped cycle s.files s.files_after)
IsDone (Check folder) s = Prints s (λ text. IsChecked s.files text false)
IsDone (Stat folder json) s = Prints s (IsStatOut json s.files)
IsDone (Dump folder file) s = Prints s (IsDumpedQueue (string_bytes file) s.files)
IsDone (Salvage folder file) s = Prints s (IsSalvagedQueue (string_bytes file) s.files)
IsDone (Migrate folder) s = IsMigrated s.files s.files_after × Keeps s.output s.output_after
IsDone order s = ⊥

-- the order ends with a fault that has its cause; where images are at fault, their lines were written
abbrev pub MayFail : Order → Streams → ToolFault → Type 0
MayFail Echo s fault = IfSome s.input (λ bytes. IsEchoFault bytes fault)
MayFail (Cycle roll epoch moment) s fault = HasCause (string_bytes roll) epoch moment fault
MayFail (Init folder settings) s fault = IsInitFault settings s.files fault
MayFail (Write folder moment) s fault = IfSome s.files (λ files. IsWriteFault moment s.input s.input_after files fault)
MayFail (Read folder settings) s fault = IfSome s.files (λ files. IsReadFault settings files fault)
MayFail (Take folder name) s fault = IfSome s.files (λ files. IsTakeFault (string_bytes name) files fault)
MayFail (DropBefore folder cycle) s fault = IfSome s.files (λ files. IsDropFault files fault)
MayFail (Check folder) s fault = IfSome s.files (λ files. IsCheckFault files fault)
    × (fault ≡ ImagesAtFault → Writes s (λ text. IsChecked s.files text true))
MayFail (Stat folder json) s fault = IfSome s.files (λ files. IsStatFault json files fault)
MayFail (Dump folder file) s fault = IfSome s.files (λ files. IsDumpFault (string_bytes file) files fault)
MayFail (Salvage folder file) s fault = IfSome s.files (λ files. IsSalvageFault (string_bytes file) files fault)
MayFail (Migrate folder) s fault = IfSome s.files (λ files. IsMigrateFault files fault)
MayFail order s fault = ⊥

-- what the version of the folder has to do with how an order ends: one that changes what a queue holds minds it, and for `read`
-- and `stat` no folder is old
abbrev pub TakesVersion : {T : Type 0} → Order → Option Files → Result T ToolFault → Type 0
TakesVersion (Write folder moment) files result = IfSome files (λ held. MindsVersion held result)
TakesVersion (Take folder name) files result = IfSome files (λ held. MindsVersion held result)
TakesVersion (DropBefore folder cycle) files result = IfSome files (λ held. MindsVersion held result)
TakesVersion (Read folder settings) files result = IfErr result (λ fault. fault ≢ OldVersion)
TakesVersion (Stat folder json) files result = IfErr result (λ fault. fault ≢ OldVersion)
TakesVersion _ files result = ⊤

-- where files changed, a file fault names the first file that was saved
abbrev pub TellsSaved : {T : Type 0} → Order → Option Files → Option Files → Result T ToolFault → Type 0
TellsSaved (Write folder moment) before after result =
    IfErr result (λ fault. KeepsFiles before after ⊎ TellsWritten moment before after fault)
TellsSaved (Take folder name) before after result =
    IfErr result (λ fault. KeepsFiles before after ⊎ TellsConfig fault)
TellsSaved (DropBefore folder cycle) before after result =
    IfErr result (λ fault. KeepsFiles before after ⊎ TellsConfig fault)
TellsSaved (Migrate folder) before after result = IfErr result (λ fault. KeepsFiles before after ⊎ TellsMoved before after fault)
TellsSaved _ before after result = ⊤

-- what was written is a beginning of such a text
abbrev pub Begins : Streams → (List ℕ → Type 0) → Type 0
Begins s IsText = (text : List ℕ) × IsText text × AppendsBeginning s.output s.output_after text

-- the order did all but write its text to the end: its files are saved, and a beginning of the text was written. `init` and
-- `migrate` write none
abbrev pub IsCutShort : Order → Streams → Type 0
IsCutShort Echo s = IfSome s.input (λ bytes. AppendsBeginning s.output s.output_after (echo_text (input_lines bytes)))
IsCutShort (Cycle roll epoch moment) s = Begins s (IsCycleLine (string_bytes roll) epoch moment)
IsCutShort (Init folder settings) s = ⊥
IsCutShort (Write folder moment) s = Begins s (IsWrittenFrom moment s.files s.files_after s.input s.input_after)
IsCutShort (Read folder settings) s = Begins s (IsReadOut settings s.files)
IsCutShort (Take folder name) s = Begins s (IsTaken (string_bytes name) s.files s.files_after)
IsCutShort (DropBefore folder cycle) s = Begins s (IsDropped cycle s.files s.files_after)
IsCutShort (Check folder) s = (text : List ℕ) × (faulty : Bool) × IsChecked s.files text faulty
    × AppendsBeginning s.output s.output_after text
IsCutShort (Stat folder json) s = Begins s (IsStatOut json s.files)
IsCutShort (Dump folder file) s = Begins s (IsDumpedQueue (string_bytes file) s.files)
IsCutShort (Salvage folder file) s = Begins s (IsSalvagedQueue (string_bytes file) s.files)
IsCutShort (Migrate folder) s = ⊥
IsCutShort order s = ⊥

-- what an order that ends with a fault leaves of the files: those that only print change none, the others save all or
-- nothing, and `init` nothing in a folder that has a queue
abbrev pub LeavesFiles : Order → Streams → ToolFault → Type 0
LeavesFiles (Init folder settings) s fault = KeepsOrSaves s.files s.files_after ((text : List ℕ) × IsInitialText settings text
    × WritesFile s.files s.files_after CONFIG_FILE.now text) fault
    × IfSome s.files (λ files. HoldsConfig files → KeepsFiles s.files s.files_after)
LeavesFiles (Write folder moment) s fault =
    KeepsOrSaves s.files s.files_after ((text : List ℕ) × IsWrittenFrom moment s.files s.files_after s.input s.input_after text) fault
LeavesFiles (Take folder name) s fault =
    KeepsOrSaves s.files s.files_after ((text : List ℕ) × IsTaken (string_bytes name) s.files s.files_after text) fault
LeavesFiles (DropBefore folder cycle) s fault =
    KeepsOrSaves s.files s.files_after ((text : List ℕ) × IsDropped cycle s.files s.files_after text) fault
LeavesFiles (Migrate folder) s fault = KeepsOrSaves s.files s.files_after (IsMoved s.files s.files_after) fault
LeavesFiles _ s fault = KeepsFiles s.files s.files_after

-- how an order ends: all of it is done, or a fault came that has its cause. The order says what a fault leaves of the files and
-- of the output
pub record Ends {T : Type 0} (order : Order) (s : Streams) (result : Result T ToolFault) : Type 0 where
  pub done : OnOk result (IsDone order s)
  pub cause : IfErr result (MayFail order s)
  pub left : IfErr result (LeavesFiles order s)
  pub silent : IfErr result (λ fault. fault ≢ WriteFault → fault ≢ ImagesAtFault → Keeps s.output s.output_after)
  pub broken : IfErr result (λ fault. fault ≡ WriteFault → IsCutShort order s)
  pub told : TellsSaved order s.files s.files_after result
  pub version : TakesVersion order s.files result
