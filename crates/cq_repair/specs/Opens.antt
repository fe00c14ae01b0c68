-- Whether a folder can be opened once an image of it is repaired.
use Rattle.std.specs.Prelude.{◌≡◌, ◌≢◌, ℕ, List, Bool, IsSomeAnd, if◌then◌else◌, map}
use Rattle.std.specs.List.{AllByRecursion}
use Rattle.std.specs.Str.{bytes_eq}
use Rattle.cq_config_text.specs.ConfigText.{IsTextOf}
use Rattle.cq_folder.specs.Folder.{Files}
use Rattle.cq_folder.specs.declared.names.TheConstants.{CONFIG_FILE}
use Rattle.cq_files.specs.Queue.{CanBeOpened, HoldsImage, IsLawfulQueue, ListsImages, contents_in, file_of}
use Rattle.cq_files.specs.declared.opening.CycleImage.{CycleImage}
use Rattle.cq_files.specs.declared.opening.SavedQueue.{SavedQueue}
use Rattle.cq_repair.specs.Kept.{positions_after, salvaged}
use Rattle.cq_repair.specs.declared.finding.Found.{Found}

-- the files are those of a queue that can be opened, except that this one may have other bytes
pub record HoldOpenableBut (file : List ℕ) (queue : SavedQueue) (files : Files) : Type 0 where
  pub lawful : IsLawfulQueue queue
  pub config : IsSomeAnd (files CONFIG_FILE.now) (IsTextOf queue.config queue.contents.positions queue.contents.floor)
  pub others : AllByRecursion (λ image. file_of image ≢ file → HoldsImage queue.config files image) queue.images.items
  pub listed : ListsImages (map file_of queue.images.items) files
  pub openable : CanBeOpened queue.config (contents_in queue)

-- the image with these messages, if it has this file
abbrev pub mended : List ℕ → List (List ℕ) → CycleImage → CycleImage
mended file kept image = record {
  file = image.file;
  messages = if bytes_eq file (file_of image) then kept else image.messages;
  ended = image.ended;
}

-- the queue that is left: the image has what is kept of it, and names are where the repair leaves them
pub record IsLeftOf (file : List ℕ) (ended : Bool) (found : Found) (queue left : SavedQueue) : Type 0 where
  pub config : left.config ≡ queue.config
  pub images : left.images.items ≡ map (mended file (salvaged found).messages) queue.images.items
  pub positions : left.contents.positions ≡ positions_after ended found
  pub floor_is : left.contents.floor ≡ queue.contents.floor
