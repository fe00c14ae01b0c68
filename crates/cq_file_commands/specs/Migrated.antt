-- What `migrate` makes of a folder of version 1.
use Rattle.std.specs.Prelude.{◌≡◌, ◌⊎◌, ⊤, ℕ, ◌+◌, ◌≤◌, List, [], ◌∷◌, ◌++◌, Option, IfSome, IsOk, IsSomeAnd, Err, if◌then◌else◌, length, map, string_bytes, false}
use Rattle.std.specs.List.{AllByRecursion}
use Rattle.cq_cycle.specs.declared.roll.TheConstants.{LAST_CYCLE}
use Rattle.cq_layout.specs.Layout.{CycleLayout}
use Rattle.cq_layout.specs.Shape.{measures}
use Rattle.cq_model.specs.Settings.{IsLawfulSettings, Settings, new_settings}
use Rattle.cq_image.specs.Image.{AreNext, image_of}
use Rattle.cq_image.specs.Reading.{read_of}
use Rattle.cq_image.specs.Versions.{begins_as}
use Rattle.cq_image.specs.declared.fault.ImageFault.{ImageFault}
use Rattle.cq_config_text.specs.ConfigText.{IsTextOf}
use Rattle.cq_folder.specs.Folder.{Files, KeepsFiles, NamedFile, WritesFiles}
use Rattle.cq_folder.specs.declared.names.TheConstants.{CONFIG_FILE}
use Rattle.cq_layout.specs.Version.{is_current}
use Rattle.cq_layout.specs.declared.version.TheConstants.{MORE_CELLS}
use Rattle.cq_config_text.specs.declared.config_text.SavedConfig.{SavedConfig}
use Rattle.cq_text.specs.declared.fault.ToolFault.{ToolFault}
use Rattle.cq_text.specs.declared.fault.ToolFault.TheVariants.{BadCycleName, FaultyImage, FileFault, FileTooLarge, OutOfMemory, WrongEnd}
use Rattle.cq_files.specs.declared.files.TheConstants.{MOST_FILE_BYTES}
use Rattle.cq_files.specs.declared.opening.CycleImage.{CycleImage}
use Rattle.cq_files.specs.declared.opening.ImageFile.{ImageFile}
use Rattle.cq_files.specs.FolderFaults.{EndsWronglyIn, HasCause, HasSettings, IsCurrent, IsFirstFault, IsFolderFault, IsLimitFault, IsReached, TellsFile}
use Rattle.cq_files.specs.Queue.{AreImageFiles, HaveEnds, IsImageName, ListsImages, file_of}
use Rattle.cq_files.specs.Saved.{first_file}

-- the same settings in version 2, with more cells a cycle, for its longer store record
abbrev pub moved_settings : Settings → Settings
moved_settings settings =
    new_settings (measures (settings.layout.cells + MORE_CELLS) settings.layout.index_count settings.layout.index_spacing) settings.cycles
    settings.roll settings.epoch settings.names

-- the layout by which an image is read: that of version 2 where it begins with a store record of that
abbrev pub moving_layout : Settings → List ℕ → CycleLayout
moving_layout settings bytes =
    if begins_as (moved_settings settings).layout bytes then (moved_settings settings).layout else settings.layout

-- the files hold this image, in the version with which it begins
abbrev pub HoldsEither : Settings → Files → CycleImage → Type 0
HoldsEither settings files image = IsSomeAnd (files (file_of image)) (λ bytes.
    bytes ≡ image_of (moving_layout settings bytes) image.file.cycle image.messages image.ended)

-- these are all images of the folder in the order of their names, each in version 1 or 2, and their messages fit version 2
pub record AreInEither (settings : Settings) (images : List CycleImage) (files : Files) : Type 0 where
  pub named : AllByRecursion (λ image. IsImageName settings image.file.cycle (file_of image)) images
  pub fit : AllByRecursion (λ image. AreNext (moved_settings settings).layout [] image.messages) images
  pub held : AllByRecursion (HoldsEither settings files) images
  pub listed : ListsImages (map file_of images) files

-- this image in version 2, under its name
abbrev pub moved_file : Settings → CycleImage → NamedFile
moved_file settings image =
    (file_of image, image_of (moved_settings settings).layout image.file.cycle image.messages image.ended)

-- these are the folder's images in version 2, in the order of their cycles; all but the last are ended, and the last is open
pub record AreMovedImages (settings : Settings) (files : Files) (moved : List NamedFile) : Type 0 where
  pub images : List CycleImage
  pub read : AreInEither settings images files
  pub ends : HaveEnds images
  pub made : moved ≡ map (moved_file settings) images

-- these are the folder's files in version 2: its images, and then its configuration, with the same positions and floor
pub record AreMovedFiles (saved : SavedConfig) (files : Files) (moved : List NamedFile) : Type 0 where
  pub images : List NamedFile
  pub config : List ℕ
  pub lawful : IsLawfulSettings (moved_settings saved.config)
  pub all : AreMovedImages saved.config files images
  pub spelled : IsTextOf (moved_settings saved.config) saved.positions.items saved.floor config
  pub in_turn : moved ≡ images ++ (CONFIG_FILE.now, config) ∷ []

-- the files of a folder that lists these images were written in version 2
pub record MovesFiles (saved : SavedConfig) (names : List (List ℕ)) (before after : Option Files) : Type 0 where
  pub moved : List NamedFile
  pub are : IfSome before (λ files. ListsImages names files → AreMovedFiles saved files moved)
  pub written : WritesFiles before after moved

-- the folder was of version 1, and its files were written in version 2
pub record IsMoved (before after : Option Files) : Type 0 where
  pub saved : SavedConfig
  pub moved : List NamedFile
  pub old : is_current saved.config.layout.store ≡ false
  pub lawful : IsLawfulSettings saved.config
  pub low : saved.floor ≤ LAST_CYCLE
  pub configured : IfSome before (λ files.
      IsSomeAnd (files CONFIG_FILE.now) (IsTextOf saved.config saved.positions.items saved.floor))
  pub are : IfSome before (λ files. AreMovedFiles saved files moved)
  pub written : WritesFiles before after moved

-- the folder is of version 2, and no file changed; or it was of version 1, and was moved
abbrev pub IsMigrated : Option Files → Option Files → Type 0
IsMigrated before after = (IfSome before (λ files. IsCurrent files) × KeepsFiles before after) ⊎ IsMoved before after

-- the folder was moved, and a file fault names the first file that was written
abbrev pub TellsMoved : Option Files → Option Files → ToolFault → Type 0
TellsMoved before after fault = (moved : IsMoved before after) × TellsFile (λ name. name ≡ first_file [] moved.moved) fault

-- the file is small enough, and the strict reader finds no fault in the image of the cycle that its name gives, by the
-- version with which it begins
pub record IsWholeInEither (files : Files) (settings : Settings) (file : List ℕ) : Type 0 where
  pub cycle : ℕ
  pub named : IsImageName settings cycle file
  pub read : IsSomeAnd (files file) (λ bytes. (length bytes ≤ MOST_FILE_BYTES)
      × IsOk (read_of (moving_layout settings bytes) cycle bytes))

-- the file is named as the image of a cycle, it is small enough to be read, and the strict reader finds this fault in it, by the
-- version with which it begins
pub record HoldsFaultInEither (settings : Settings) (files : Files) (file : List ℕ) (fault : ImageFault) : Type 0 where
  pub cycle : ℕ
  pub named : IsImageName settings cycle file
  pub found : IsSomeAnd (files file) (λ bytes. (length bytes ≤ MOST_FILE_BYTES)
      × (read_of (moving_layout settings bytes) cycle bytes ≡ Err fault))

-- the images are read, and the first of them that ends wrongly has this file
pub record EndsWronglyInEither (settings : Settings) (files : Files) (file : List ℕ) : Type 0 where
  pub images : List CycleImage
  pub read : AreInEither settings images files
  pub first : EndsWronglyIn images file

-- what the files have to do with the fault of an image
abbrev pub HasImageCause : Settings → Files → ToolFault → Type 0
HasImageCause settings files (FaultyImage file fault) = HoldsFaultInEither settings files (string_bytes file) fault
HasImageCause settings files fault = HasCause files fault

-- why the images of a folder are not moved: the first fault of their names and then of the images; else their ends; else the
-- files are not saved, of which the first is told: an image, or where there is none the configuration
abbrev pub IsMovingFault : Settings → Files → ToolFault → Type 0
IsMovingFault settings files OutOfMemory = ⊤
IsMovingFault settings files (BadCycleName file) =
    HasCause files (BadCycleName file) × IsFirstFault IsWholeInEither files (BadCycleName file)
IsMovingFault settings files (FileFault file) =
    IsReached IsWholeInEither files (string_bytes file) ⊎ ((moved : List NamedFile) × AreMovedImages settings files moved
    × (string_bytes file ≡ first_file CONFIG_FILE.now moved))
IsMovingFault settings files (FileTooLarge file) =
    HasCause files (FileTooLarge file) × IsReached IsWholeInEither files (string_bytes file)
IsMovingFault settings files (FaultyImage file fault) =
    HoldsFaultInEither settings files (string_bytes file) fault × IsReached IsWholeInEither files (string_bytes file)
IsMovingFault settings files (WrongEnd file) = EndsWronglyInEither settings files (string_bytes file)
IsMovingFault settings files _ = ⊥

-- why these images, of a folder with these settings, are not moved
abbrev pub IsMovingFaultOf : Settings → List ImageFile → Files → ToolFault → Type 0
IsMovingFaultOf settings images files fault = HasSettings files settings → IsLawfulSettings settings
    → AreImageFiles settings images files → IsMovingFault settings files fault

-- why a folder of version 1 that has these settings is not moved: the limits of version 2; else its images
abbrev pub IsMoveFault : Settings → Files → ToolFault → Type 0
IsMoveFault settings files fault = IsLimitFault (moved_settings settings) fault
    ⊎ (IsLawfulSettings (moved_settings settings) × IsMovingFault settings files fault)

-- why a folder with these settings and images is not moved
abbrev pub IsMoveFaultOf : Settings → List (List ℕ) → Files → ToolFault → Type 0
IsMoveFaultOf settings names files fault = HasSettings files settings → IsLawfulSettings settings → ListsImages names files
    → IsMoveFault settings files fault

-- the folder is of version 1 and not moved
pub record RefusesMove (files : Files) (fault : ToolFault) : Type 0 where
  pub settings : Settings
  pub configured : HasSettings files settings
  pub lawful : IsLawfulSettings settings
  pub low : configured.floor ≤ LAST_CYCLE
  pub old : is_current settings.layout.store ≡ false
  pub cause : IsMoveFault settings files fault

-- why a folder is not made one of version 2: it is not opened, or it is of version 1 and not moved
abbrev pub IsMigrateFault : Files → ToolFault → Type 0
IsMigrateFault files fault = (IsFolderFault fault × HasCause files fault) ⊎ RefusesMove files fault
