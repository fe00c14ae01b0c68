-- The files that are dumped.
use Rattle.std.specs.Prelude.{◌≡◌, Bool, Option, Some, ℕ, List, []}
use Rattle.cq_image.specs.Image.{AreNext, image_of}
use Rattle.cq_model.specs.Settings.{Settings}
use Rattle.cq_folder.specs.Folder.{Files}
use Rattle.cq_text.specs.DumpText.{dump_of}
use Rattle.cq_files.specs.Queue.{IsImageName}
use Rattle.cq_file_commands.specs.Shown.{IsShown}

-- the file is named as the image of a cycle, and holds one whose lines are this text
pub record IsDumped (settings : Settings) (file : List ℕ) (text : List ℕ) (files : Files) : Type 0 where
  pub cycle : ℕ
  pub messages : List (List ℕ)
  pub ended : Bool
  pub named : IsImageName settings cycle file
  pub next : AreNext settings.layout [] messages
  pub held : files file ≡ Some (image_of settings.layout cycle messages ended)
  pub text_is : text ≡ dump_of settings.layout cycle messages ended

-- the folder's configuration gives the layout and the names of cycles by which the file was dumped
abbrev pub IsDumpedQueue : List ℕ → Option Files → List ℕ → Type 0
IsDumpedQueue file files text = IsShown IsDumped file files text
