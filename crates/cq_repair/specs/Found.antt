-- The image that is to be repaired, and why none is found.
use Rattle.std.specs.Prelude.{◌≡◌, ◌⊎◌, ⊤, ℕ, ◌<◌, ◌≤◌, List, Contains, IfSome, IsSomeAnd, IsTrue, Option, Some, length, string_bytes, true, false}
use Rattle.cq_config_text.specs.ConfigText.{IsTextOf}
use Rattle.cq_layout.specs.Version.{is_current}
use Rattle.cq_cycle.specs.declared.roll.TheConstants.{LAST_CYCLE}
use Rattle.cq_folder.specs.Folder.{Files, ListsFiles}
use Rattle.cq_folder.specs.declared.names.TheConstants.{CONFIG_FILE}
use Rattle.cq_files.specs.FolderFaults.{IsCurrent, IsOld, IsUnreadFault}
use Rattle.cq_files.specs.Queue.{IsImageName, ends_as_image}
use Rattle.cq_files.specs.declared.files.TheConstants.{MOST_FILE_BYTES}
use Rattle.cq_model.specs.Settings.{IsLawfulSettings, Settings, texts}
use Rattle.cq_text.specs.declared.fault.ToolFault.{ToolFault}
use Rattle.cq_text.specs.declared.fault.ToolFault.TheVariants.{BadCycleName, NoSuchFile, OldVersion, OutOfMemory}
use Rattle.cq_repair.specs.declared.finding.Found.{Found}

-- the file is named as the image of a later cycle
abbrev pub IsLater : Settings → ℕ → List ℕ → Type 0
IsLater settings cycle file = (later : ℕ) × IsImageName settings later file × (cycle < later)

-- one of these files is
abbrev pub HasLater : Settings → List (List ℕ) → ℕ → Type 0
HasLater settings names cycle = (file : List ℕ) × Contains names file × IsLater settings cycle file

-- the file is one of these, and named as the image of this cycle, in a folder of version 2
pub record IsPlaced (settings : Settings) (names : List (List ℕ)) (file : List ℕ) (cycle : ℕ) : Type 0 where
  pub listed : Contains names file
  pub ending : IsTrue (ends_as_image file)
  pub named : IsImageName settings cycle file
  pub version : is_current settings.layout.store ≡ true

-- why it is not: no image has its name; else this names no cycle; else the folder is of version 1
abbrev pub IsUnplaced : Settings → List (List ℕ) → List ℕ → ToolFault → Type 0
IsUnplaced settings names file OutOfMemory = ⊤
IsUnplaced settings names file (NoSuchFile name) =
    (string_bytes name ≡ file) × ¬ (IsTrue (ends_as_image file) × Contains names file)
IsUnplaced settings names file (BadCycleName name) = (string_bytes name ≡ file) × IsTrue (ends_as_image file) × Contains names file
    × ((cycle : ℕ) → ¬ IsImageName settings cycle file)
IsUnplaced settings names file OldVersion = IsTrue (ends_as_image file) × Contains names file
    × ((cycle : ℕ) × IsImageName settings cycle file) × (is_current settings.layout.store ≡ false)
IsUnplaced settings names file _ = ⊥

-- the image of a queue of version 2 that these files hold, with what else it has
pub record IsFound (file : List ℕ) (files : Option Files) (found : Found) : Type 0 where
  pub lawful : IsLawfulSettings found.saved.config
  pub paired : length found.saved.positions.items ≡ length found.saved.config.names
  pub low : found.saved.floor ≤ LAST_CYCLE
  pub config : IfSome files (λ held.
      IsSomeAnd (held CONFIG_FILE.now) (IsTextOf found.saved.config found.saved.positions.items found.saved.floor))
  pub names : IfSome files (ListsFiles (texts found.names.items))
  pub placed : IsPlaced found.saved.config (texts found.names.items) file found.cycle
  pub held : IfSome files (λ held. held file ≡ Some found.bytes.items)
  pub small : length found.bytes.items ≤ MOST_FILE_BYTES

-- why the bytes of an image are not read: the folder is of version 1; else it is of version 2, and the file is not read
abbrev pub IsOldOrUnread : List ℕ → Settings → Files → ToolFault → Type 0
IsOldOrUnread file settings files fault = ((fault ≡ OldVersion) × IsOld files)
    ⊎ (IsCurrent files × IsUnreadFault file settings files fault)
