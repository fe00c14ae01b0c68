-- Which faults of a folder and its files are answered.
use Rattle.std.specs.Prelude.{◌≡◌, ◌⊎◌, ⊤, ℕ, ◌+◌, true, false, ◌<◌, ◌≤◌, List, Contains, length, slice_get, take, Result, Ok, Err, IsOk, IsSome, IsSomeAnd, Some, string_bytes, Bool}
use Rattle.std.specs.List.{AllByRecursion}
use Rattle.std.specs.declared.cmp.Ordering.TheVariants.{Less}
use Rattle.cq_cycle.specs.declared.roll.TheConstants.{LAST_CYCLE}
use Rattle.cq_layout.specs.Layout.{CycleLayout, IsLawfulLayout}
use Rattle.cq_model.specs.Settings.{IsLawfulSettings, Settings}
use Rattle.cq_image.specs.declared.fault.ImageFault.{ImageFault}
use Rattle.cq_image.specs.Reading.{read_of}
use Rattle.cq_config_text.specs.ConfigFault.{RefusesText}
use Rattle.cq_config_text.specs.ConfigText.{IsTextOf}
use Rattle.cq_folder.specs.Folder.{Files}
use Rattle.cq_folder.specs.declared.names.TheConstants.{CONFIG_FILE}
use Rattle.cq_layout.specs.Version.{is_current}
use Rattle.cq_config_text.specs.declared.config_fault.ConfigFault.{ConfigFault}
use Rattle.cq_config_text.specs.declared.config_fault.ConfigFault.TheVariants as config
use Rattle.cq_files.specs.declared.opening.CycleImage.{CycleImage}
use Rattle.cq_files.specs.declared.opening.ImageFile.{ImageFile}
use Rattle.cq_files.specs.declared.opening.SavedQueue.{SavedQueue}
use Rattle.cq_files.specs.Queue.{AreImageFiles, HoldQueue, IsImageFile, IsImageName, IsLawfulImage, file_of, name_cmp}
use Rattle.cq_files.specs.declared.files.TheConstants.{MOST_FILE_BYTES}
use Rattle.cq_text.specs.declared.fault.ToolFault.{ToolFault}
use Rattle.cq_text.specs.declared.fault.ToolFault.TheVariants.{OutOfMemory, FolderFault, FileFault, FileTooLarge, WriteFault, ConfigLine, BadShape, BadConfig, BadCycleName, FaultyImage, NoQueueHere, OldVersion, WrongEnd, NoSuchFile}

-- a fault of listing the folder
abbrev pub IsListFault : ToolFault → Type 0
IsListFault OutOfMemory = ⊤
IsListFault FolderFault = ⊤
IsListFault _ = ⊥

-- a fault of the file with this name
abbrev pub IsFileFault : List ℕ → ToolFault → Type 0
IsFileFault name OutOfMemory = ⊤
IsFileFault name (FileFault file) = string_bytes file ≡ name
IsFileFault name (FileTooLarge file) = string_bytes file ≡ name
IsFileFault name _ = ⊥

-- a fault that can come after a command began to write
abbrev pub IsSaveFault : ToolFault → Type 0
IsSaveFault OutOfMemory = ⊤
IsSaveFault (FileFault file) = ⊤
IsSaveFault WriteFault = ⊤
IsSaveFault _ = ⊥

-- a file fault tells the name of a file, of which this holds
abbrev pub TellsFile : (List ℕ → Type 0) → ToolFault → Type 0
TellsFile IsName (FileFault file) = IsName (string_bytes file)
TellsFile IsName _ = ⊤

-- why settings are refused: their limits, of which the shape's come first
abbrev pub IsLimitFault : Settings → ToolFault → Type 0
IsLimitFault settings OutOfMemory = ⊤
IsLimitFault settings BadShape = ¬ IsLawfulLayout settings.layout
IsLimitFault settings BadConfig = IsLawfulLayout settings.layout × ¬ IsLawfulSettings settings
IsLimitFault settings _ = ⊥

-- an image ends wrongly: it is open before the last, or ended at the last
abbrev pub EndsWronglyAt : List CycleImage → ℕ → CycleImage → Type 0
EndsWronglyAt images k image = ((image.ended ≡ false) × (k + 1 < length images))
    ⊎ ((image.ended ≡ true) × (k + 1 ≡ length images))

-- there is a `queue.cqc` among the files
abbrev pub HoldsConfig : Files → Type 0
HoldsConfig files = IsSome (files CONFIG_FILE.now)

-- the files' configuration has these settings
pub record HasSettings (files : Files) (settings : Settings) : Type 0 where
  pub positions : List ℕ
  pub floor : ℕ
  pub spelled : IsSomeAnd (files CONFIG_FILE.now) (IsTextOf settings positions floor)

-- the files' configuration is within its limits, and `current` says whether its version is the one that new folders have
pub record HasVersion (files : Files) (current : Bool) : Type 0 where
  pub settings : Settings
  pub configured : HasSettings files settings
  pub lawful : IsLawfulSettings settings
  pub low : configured.floor ≤ LAST_CYCLE
  pub told : is_current settings.layout.store ≡ current

-- it is of the version that new folders have
abbrev pub IsCurrent : Files → Type 0
IsCurrent files = HasVersion files true

-- it is of an older one
abbrev pub IsOld : Files → Type 0
IsOld files = HasVersion files false

-- the text of the files' configuration, which is small enough to be read, is refused so
abbrev pub RefusesConfig : Files → ConfigFault → Type 0
RefusesConfig files fault =
    IsSomeAnd (files CONFIG_FILE.now) (λ text. (length text ≤ MOST_FILE_BYTES) × RefusesText fault text)

-- by the files' configuration no cycle has an image of this name
pub record NamesNoCycle (files : Files) (file : List ℕ) : Type 0 where
  pub settings : Settings
  pub configured : HasSettings files settings
  pub none : (cycle : ℕ) → ¬ IsImageName settings cycle file

-- by the files' configuration the file is named as the image of a cycle, it is small enough to be read, and the strict reader
-- finds this fault in it
pub record HoldsFault (files : Files) (file : List ℕ) (fault : ImageFault) : Type 0 where
  pub settings : Settings
  pub configured : HasSettings files settings
  pub cycle : ℕ
  pub named : IsImageName settings cycle file
  pub found : IsSomeAnd (files file) (λ bytes. (length bytes ≤ MOST_FILE_BYTES) × (read_of settings.layout cycle bytes ≡ Err fault))

-- the first of these images that ends wrongly has this file
pub record EndsWronglyIn (images : List CycleImage) (file : List ℕ) : Type 0 where
  pub at : ℕ
  pub image : CycleImage
  pub there : slice_get images at ≡ Some image
  pub named : file ≡ file_of image
  pub ends : EndsWronglyAt images at image
  pub before : AllByRecursion (λ other. other.ended ≡ true) (take at images)

-- why the ends of images are refused
abbrev pub IsEndFault : List CycleImage → ToolFault → Type 0
IsEndFault images OutOfMemory = ⊤
IsEndFault images (WrongEnd file) = EndsWronglyIn images (string_bytes file)
IsEndFault images _ = ⊥

-- the first of the queue's images that ends wrongly has this file
pub record EndsWrongly (files : Files) (file : List ℕ) : Type 0 where
  pub queue : SavedQueue
  pub held : HoldQueue queue files
  pub lawful : AllByRecursion (IsLawfulImage queue.config) queue.images.items
  pub first : EndsWronglyIn queue.images.items file

-- what the files have to do with a fault that they are reported to have; of a fault of the device that lists them, and of
-- memory that is out, they say nothing; a file that the device does not read is one of a folder with a `queue.cqc`
abbrev pub HasCause : Files → ToolFault → Type 0
HasCause files OutOfMemory = ⊤
HasCause files FolderFault = ⊤
HasCause files (FileFault file) = HoldsConfig files
HasCause files (FileTooLarge file) = IsSomeAnd (files (string_bytes file)) (λ bytes. MOST_FILE_BYTES < length bytes)
HasCause files NoQueueHere = ¬ HoldsConfig files
HasCause files (ConfigLine number) = RefusesConfig files (config.Line number)
HasCause files BadShape = RefusesConfig files config.BadShape
HasCause files BadConfig = RefusesConfig files config.BadConfig
HasCause files OldVersion = IsOld files
HasCause files (BadCycleName file) = NamesNoCycle files (string_bytes file)
HasCause files (FaultyImage file fault) = HoldsFault files (string_bytes file) fault
HasCause files (WrongEnd file) = EndsWrongly files (string_bytes file)
HasCause files _ = ⊥

-- the file is named as the image of a cycle
abbrev pub NamesCycle : Settings → List ℕ → Type 0
NamesCycle settings file = (cycle : ℕ) × IsImageName settings cycle file

-- the file is small enough to be read
abbrev pub IsSmall : Files → Settings → List ℕ → Type 0
IsSmall files settings file = IsSomeAnd (files file) (λ bytes. length bytes ≤ MOST_FILE_BYTES)

-- the file is small enough, and the strict reader finds no fault in the image of the cycle that its name gives
pub record IsWhole (files : Files) (settings : Settings) (file : List ℕ) : Type 0 where
  pub cycle : ℕ
  pub named : IsImageName settings cycle file
  pub read : IsSomeAnd (files file) (λ bytes. (length bytes ≤ MOST_FILE_BYTES) × IsOk (read_of settings.layout cycle bytes))

-- by the files' configuration all image files are named as images of cycles
pub record NameCycles (files : Files) : Type 0 where
  pub settings : Settings
  pub configured : HasSettings files settings
  pub lawful : IsLawfulSettings settings
  pub named : (file : List ℕ) → IsImageFile files file → NamesCycle settings file

-- by the files' configuration this holds of each image file that comes before the file in the order of names
pub record HoldsBefore (files : Files) (file : List ℕ) (P : Settings → List ℕ → Type 0) : Type 0 where
  pub settings : Settings
  pub configured : HasSettings files settings
  pub lawful : IsLawfulSettings settings
  pub before : (other : List ℕ) → IsImageFile files other → name_cmp other file ≡ Less → P settings other

-- the file is looked at, and what is looked at before it is as it must be: nothing is before `queue.cqc`; before an image
-- file are the names of all images, and the images before it in the order of names, of which this must hold
abbrev pub IsReached : (Files → Settings → List ℕ → Type 0) → Files → List ℕ → Type 0
IsReached P files file =
    (file ≡ CONFIG_FILE.now) ⊎ (IsImageFile files file × NameCycles files × HoldsBefore files file (P files))

-- the name of an image file is looked at, and those before it name cycles
abbrev pub IsNameReached : Files → List ℕ → Type 0
IsNameReached files file = IsImageFile files file × HoldsBefore files file NamesCycle

-- a fault is the first one, where this must hold of each image before the next one is looked at
abbrev pub IsFirstFault : (Files → Settings → List ℕ → Type 0) → Files → ToolFault → Type 0
IsFirstFault P files (FileFault file) = IsReached P files (string_bytes file)
IsFirstFault P files (FileTooLarge file) = IsReached P files (string_bytes file)
IsFirstFault P files (FaultyImage file fault) = IsReached P files (string_bytes file)
IsFirstFault P files (BadCycleName file) = IsNameReached files (string_bytes file)
IsFirstFault P files _ = ⊤

-- the first fault of these images, of a folder with these settings, where P must hold of each before the next is looked at
abbrev pub IsFirstFaultOf : (Files → Settings → List ℕ → Type 0) → Settings → List ImageFile → Files → ToolFault → Type 0
IsFirstFaultOf P settings images files fault = HasSettings files settings → HasCause files fault
    × (IsLawfulSettings settings → AreImageFiles settings images files → IsFirstFault P files fault)

-- a fault that is found before any image is looked at
abbrev pub IsFolderFault : ToolFault → Type 0
IsFolderFault OutOfMemory = ⊤
IsFolderFault FolderFault = ⊤
IsFolderFault (FileFault file) = string_bytes file ≡ CONFIG_FILE.now
IsFolderFault (FileTooLarge file) = string_bytes file ≡ CONFIG_FILE.now
IsFolderFault NoQueueHere = ⊤
IsFolderFault (ConfigLine number) = ⊤
IsFolderFault BadShape = ⊤
IsFolderFault BadConfig = ⊤
IsFolderFault _ = ⊥

-- a command that changes files: only in a folder of the current version is it done, or comes to a fault that is neither one
-- of `queue.cqc` nor `OldVersion`
abbrev pub MindsVersion : {T : Type 0} → Files → Result T ToolFault → Type 0
MindsVersion files (Ok done) = IsCurrent files
MindsVersion files (Err fault) = IsFolderFault fault ⊎ ((fault ≡ OldVersion) ⊎ IsCurrent files)

-- a fault of the names of images: the first one that names no cycle
abbrev pub IsNamingFault : Files → ToolFault → Type 0
IsNamingFault files OutOfMemory = ⊤
IsNamingFault files (BadCycleName file) = IsNameReached files (string_bytes file)
IsNamingFault files _ = ⊥

-- a fault of the image with this name
abbrev pub IsImageFault : List ℕ → ToolFault → Type 0
IsImageFault name (FaultyImage file fault) = string_bytes file ≡ name
IsImageFault name fault = IsFileFault name fault

-- a fault of one of the images
abbrev pub IsImagesFault : ToolFault → Type 0
IsImagesFault OutOfMemory = ⊤
IsImagesFault (FileFault file) = ⊤
IsImagesFault (FileTooLarge file) = ⊤
IsImagesFault (FaultyImage file fault) = ⊤
IsImagesFault _ = ⊥

-- why the images of a queue are not read: the first fault of its folder
abbrev pub IsQueueFault : Files → ToolFault → Type 0
IsQueueFault files fault = HasCause files fault × IsFirstFault IsWhole files fault

-- the folder has no file of that name with the ending of images
abbrev pub IsMissing : List ℕ → Files → ToolFault → Type 0
IsMissing file files (NoSuchFile name) =
    (string_bytes name ≡ file) × ¬ IsImageFile files file
IsMissing file files _ = ⊥

-- the name of this file is said to be no cycle's
abbrev pub IsNameFault : List ℕ → ToolFault → Type 0
IsNameFault file (BadCycleName name) = string_bytes name ≡ file
IsNameFault file _ = ⊥

-- why nothing is shown of a file of a folder that was opened: it has no such image file; else the name of that one is no
-- cycle's; else what it holds is refused so
pub record RefusesFile (Refuses : Settings → Files → ToolFault → Type 0) (file : List ℕ) (files : Files) (fault : ToolFault) : Type 0 where
  pub settings : Settings
  pub configured : HasSettings files settings
  pub lawful : IsLawfulSettings settings
  pub cause : IsMissing file files fault
      ⊎ (IsImageFile files file × ((IsNameFault file fault × HasCause files fault) ⊎ (NamesCycle settings file × Refuses settings files fault)))

-- why nothing is shown of a file: the folder is not opened, or it is and the file is refused
abbrev pub IsShowFault : (Settings → Files → ToolFault → Type 0) → List ℕ → Files → ToolFault → Type 0
IsShowFault Refuses file files fault = (IsFolderFault fault × HasCause files fault) ⊎ RefusesFile Refuses file files fault

-- why no file is given of a folder with these settings that lists these images: it has no such image; else the name of that
-- one is no cycle's
abbrev pub IsGivingFault : Settings → List (List ℕ) → List ℕ → ToolFault → Type 0
IsGivingFault settings names file OutOfMemory = ⊤
IsGivingFault settings names file (NoSuchFile name) = (string_bytes name ≡ file) × ¬ Contains names file
IsGivingFault settings names file (BadCycleName name) =
    (string_bytes name ≡ file) × Contains names file × ((cycle : ℕ) → ¬ IsImageName settings cycle (string_bytes name))
IsGivingFault settings names file _ = ⊥

-- why bytes are not read by this layout as the image in a file
abbrev pub IsReadingFault : CycleLayout → ImageFile → List ℕ → ToolFault → Type 0
IsReadingFault layout file bytes OutOfMemory = ⊤
IsReadingFault layout file bytes (FaultyImage name fault) =
    (string_bytes name ≡ string_bytes file.name) × (read_of layout file.cycle bytes ≡ Err fault)
IsReadingFault layout file bytes _ = ⊥

-- why a given file is not read
abbrev pub IsUnreadFault : List ℕ → Settings → Files → ToolFault → Type 0
IsUnreadFault file settings files fault = IsFileFault file fault × HasCause files fault

-- a fault of a folder, or of the names and files of its images; none of what these hold
abbrev pub IsLookingFault : ToolFault → Type 0
IsLookingFault (BadCycleName file) = ⊤
IsLookingFault (FileFault file) = ⊤
IsLookingFault (FileTooLarge file) = ⊤
IsLookingFault fault = IsFolderFault fault
