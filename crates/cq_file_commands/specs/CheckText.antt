-- The text of `check`: a line for each image.
use Rattle.std.specs.Prelude.{◌≡◌, Bool, true, false, ℕ, List, [], ◌++◌, length, Option, None, Some, IfSome, IsSomeAnd, Result, Ok, Err, codes, string_bytes}
use Rattle.std.specs.Fmt.{decimal}
use Rattle.std.specs.List.{AllByRecursion, flat_map, list_any}
use Rattle.cq_model.specs.Settings.{IsLawfulSettings, Settings}
use Rattle.cq_config_text.specs.ConfigText.{IsTextOf}
use Rattle.cq_folder.specs.Folder.{Files}
use Rattle.cq_folder.specs.declared.names.TheConstants.{CONFIG_FILE}
use Rattle.cq_image.specs.Fault.{fault_text}
use Rattle.cq_image.specs.Reading.{read_of}
use Rattle.cq_image.specs.declared.fault.ImageFault.{ImageFault}
use Rattle.cq_image.specs.declared.found.ImageRead.{ImageRead}
use Rattle.cq_files.specs.declared.opening.ImageFile.{ImageFile}
use Rattle.cq_files.specs.FolderFaults.{IsSmall}
use Rattle.cq_files.specs.Queue.{AreImageFiles}

-- how the end of an image is called
abbrev pub mark_word : Bool → List ℕ
mark_word true = codes "ended"
mark_word false = codes "open"

-- the line of a file, by what the reader answers to its bytes
abbrev pub state_line : List ℕ → Result ImageRead ImageFault → List ℕ
state_line name (Ok read) =
    name ++ (codes ": " ++ (decimal (length read.messages) ++ (codes " messages, " ++ (mark_word read.ended ++ codes "\n"))))
state_line name (Err fault) = name ++ (codes ": " ++ (fault_text fault ++ codes "\n"))

-- whether the answer is a fault
abbrev pub is_fault : Result ImageRead ImageFault → Bool
is_fault (Ok read) = false
is_fault (Err fault) = true

-- what the reader answers to the bytes of a file
abbrev pub answer_to : Settings → ImageFile → List ℕ → Result ImageRead ImageFault
answer_to settings file bytes = read_of settings.layout file.cycle bytes

-- the line of a file with these bytes, and whether it is at fault; a file that is gone has none
abbrev pub line_of : Settings → ImageFile → Option (List ℕ) → List ℕ
line_of settings file None = []
line_of settings file (Some bytes) = state_line (string_bytes file.name) (answer_to settings file bytes)

-- whether a file with these bytes is at fault; one that is gone is not
abbrev pub is_faulty : Settings → ImageFile → Option (List ℕ) → Bool
is_faulty settings file None = false
is_faulty settings file (Some bytes) = is_fault (answer_to settings file bytes)

-- the lines of some files, and whether one of them is at fault
abbrev pub check_text : Settings → List ImageFile → Files → List ℕ
check_text settings images files = flat_map (λ file. line_of settings file (files (string_bytes file.name))) images

-- whether one of some files is at fault
abbrev pub has_fault : Settings → List ImageFile → Files → Bool
has_fault settings images files = list_any (λ file. is_faulty settings file (files (string_bytes file.name))) images

-- the text has one line for each image file of the folder, in the order of their names, all of which are small enough to be
-- read, and this says whether one is at fault
pub record IsChecked (files : Option Files) (text : List ℕ) (faulty : Bool) : Type 0 where
  pub settings : Settings
  pub positions : List ℕ
  pub floor : ℕ
  pub images : List ImageFile
  pub lawful : IsLawfulSettings settings
  pub config : IfSome files (λ held. IsSomeAnd (held CONFIG_FILE.now) (IsTextOf settings positions floor))
  pub all : IfSome files (AreImageFiles settings images)
  pub small : IfSome files (λ held. AllByRecursion (λ file. IsSmall held settings (string_bytes file.name)) images)
  pub text_is : IfSome files (λ held. text ≡ check_text settings images held)
  pub faulty_is : IfSome files (λ held. faulty ≡ has_fault settings images held)
