-- The files of which messages are saved.
use Rattle.std.specs.Prelude.{◌≡◌, ◌≤◌, IsSomeAnd, Option, ℕ, List, length}
use Rattle.cq_image.specs.Salvage.{salvage_of}
use Rattle.cq_model.specs.Settings.{Settings}
use Rattle.cq_folder.specs.Folder.{Files}
use Rattle.cq_text.specs.SalvageText.{saved_text}
use Rattle.cq_files.specs.declared.files.TheConstants.{MOST_FILE_BYTES}
use Rattle.cq_files.specs.Queue.{IsImageName}
use Rattle.cq_file_commands.specs.Shown.{IsShown}

-- the file is named as the image of a cycle, it is small enough to be read, and the lines of what is saved of its bytes are this
-- text
pub record IsSalvaged (settings : Settings) (file : List ℕ) (text : List ℕ) (files : Files) : Type 0 where
  pub cycle : ℕ
  pub named : IsImageName settings cycle file
  pub saved : IsSomeAnd (files file) (λ bytes. (length bytes ≤ MOST_FILE_BYTES)
      × (text ≡ saved_text (salvage_of settings.layout cycle bytes)))

-- the folder's configuration gives the layout and the names of cycles by which messages of the file were saved
abbrev pub IsSalvagedQueue : List ℕ → Option Files → List ℕ → Type 0
IsSalvagedQueue file files text = IsShown IsSalvaged file files text
