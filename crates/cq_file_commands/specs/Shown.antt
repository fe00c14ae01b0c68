-- A file that a command is given by its name, and what is shown of it.
use Rattle.std.specs.Prelude.{◌≡◌, ◌≤◌, ℕ, List, Contains, Option, Some, IfSome, IsSomeAnd, length, string_bytes}
use Rattle.cq_model.specs.Settings.{IsLawfulSettings, Settings}
use Rattle.cq_config_text.specs.ConfigText.{IsTextOf}
use Rattle.cq_folder.specs.Folder.{Files}
use Rattle.cq_folder.specs.declared.names.TheConstants.{CONFIG_FILE}
use Rattle.cq_files.specs.declared.files.TheConstants.{MOST_FILE_BYTES}
use Rattle.cq_file_commands.specs.declared.given.GivenImage.{GivenImage}
use Rattle.cq_files.specs.declared.opening.ImageFile.{ImageFile}
use Rattle.cq_files.specs.Queue.{IsImageName, IsOpenFolder}

-- the file of this name is one of these images, named as that of this cycle
pub record IsGivenFile (settings : Settings) (names : List (List ℕ)) (file : List ℕ) (image : ImageFile) : Type 0 where
  pub listed : Contains names file
  pub named : IsImageName settings image.cycle file
  pub spelled : string_bytes image.name ≡ file

-- the file of this name is one of the images of the folder that was opened, and holds these bytes
pub record IsGiven (file : List ℕ) (files : Option Files) (given : GivenImage) : Type 0 where
  pub names : List (List ℕ)
  pub opened : IsOpenFolder files given.saved names
  pub image : IsGivenFile given.saved.config names file given.image
  pub held : IfSome files (λ held. held file ≡ Some given.bytes.items)
  pub small : length given.bytes.items ≤ MOST_FILE_BYTES

-- the text is what is shown of the file, by the settings in the folder's configuration
pub record IsShown (Shows : Settings → List ℕ → List ℕ → Files → Type 0) (file : List ℕ) (files : Option Files) (text : List ℕ) : Type 0 where
  pub settings : Settings
  pub positions : List ℕ
  pub floor : ℕ
  pub lawful : IsLawfulSettings settings
  pub config : IfSome files (λ held. IsSomeAnd (held CONFIG_FILE.now) (IsTextOf settings positions floor))
  pub shown : IfSome files (Shows settings file text)
