-- What is left of a queue that is trimmed.
use Rattle.std.specs.Prelude.{◌≡◌, ◌≢◌, ◌⊎◌, ℕ, ◌<◌, List, [], ◌∷◌, ◌++◌, Bool, true, false, Option, Some, filter, map, nat_le, nat_lt, slice_get, take}
use Rattle.std.specs.List.{AllByRecursion, flat_map}
use Rattle.cq_config_text.specs.ConfigText.{IsTextOf}
use Rattle.cq_folder.specs.Folder.{Files, KeepsFiles, NamedFile, SavesAndRemoves}
use Rattle.cq_folder.specs.declared.names.TheConstants.{CONFIG_FILE}
use Rattle.cq_files.specs.Queue.{contents_from, file_of}
use Rattle.cq_files.specs.declared.opening.CycleImage.{CycleImage}
use Rattle.cq_files.specs.declared.opening.SavedQueue.{SavedQueue}
use Rattle.cq_model.specs.Settings.{Settings}
use Rattle.cq_model.specs.declared.contents.Contents.{Contents}
use Rattle.cq_model.specs.declared.contents.CycleList.{CycleList}
use Rattle.cq_stat.specs.Facts.{left_from, with_floor}

-- these cycles without those below the floor
abbrev pub kept_lists : ℕ → List CycleList → List CycleList
kept_lists floor lists = filter (λ l. nat_le floor l.cycle) lists

-- the cycles below the floor
abbrev pub removed_lists : ℕ → List CycleList → List CycleList
removed_lists floor lists = filter (λ l. nat_lt l.cycle floor) lists

-- what is left with this floor, without the cycles below it
abbrev pub trimmed : Contents → ℕ → Contents
trimmed contents floor = contents_from (kept_lists floor contents.lists) contents.positions floor

-- the images of the cycles below the floor, by the names of their files
abbrev pub removed_files : ℕ → List CycleImage → List (List ℕ)
removed_files floor images = map file_of (filter (λ image. nat_lt image.file.cycle floor) images)

-- these images without those of the cycles below the floor
abbrev pub kept_images : ℕ → List CycleImage → List CycleImage
kept_images floor images = filter (λ image. nat_le floor image.file.cycle) images

-- each name on a line
abbrev pub name_lines : List (List ℕ) → List ℕ
name_lines names = flat_map (λ name. name ++ 10 ∷ []) names

-- with this floor fewer messages are left for a name at this position
abbrev pub Loses : Contents → ℕ → ℕ → Type 0
Loses contents floor position = left_from (with_floor contents floor) position < left_from contents position

-- with this floor that is so for no name
abbrev pub LosesNone : Contents → ℕ → Type 0
LosesNone contents floor = AllByRecursion (λ position. ¬ Loses contents floor position) contents.positions

-- with this floor the name is the first one for which fewer messages are left
pub record IsFirstLoser (settings : Settings) (contents : Contents) (floor : ℕ) (name : List ℕ) : Type 0 where
  pub at : ℕ
  pub position : ℕ
  pub named : slice_get settings.names at ≡ Some name
  pub placed : slice_get contents.positions at ≡ Some position
  pub loses : Loses contents floor position
  pub before : AllByRecursion (λ other. ¬ Loses contents floor other) (take at contents.positions)

-- what is written: the configuration with the floor, if that is another one
pub data AreChanges (settings : Settings) (contents : Contents) (floor : ℕ) (changes : List NamedFile) : Type 0 where
  same : floor ≡ contents.floor → changes ≡ [] → AreChanges settings contents floor changes
  raised : (text : List ℕ) → floor ≢ contents.floor → IsTextOf settings contents.positions floor text
      → changes ≡ (CONFIG_FILE.now, text) ∷ [] → AreChanges settings contents floor changes

-- no file changed, if nothing is to be; else these files were written, and those of these names removed
abbrev pub Leaves : Bool → List NamedFile → List (List ℕ) → Option Files → Option Files → Type 0
Leaves true changes removed before after = KeepsFiles before after
Leaves false changes removed before after = SavesAndRemoves before after changes removed

-- so it is, or no file changed
abbrev pub KeepsOrLeaves : Bool → List NamedFile → List (List ℕ) → Option Files → Option Files → Type 0
KeepsOrLeaves only changes removed before after = KeepsFiles before after ⊎ Leaves only changes removed before after

-- the name of the first file that is written, or else of the first one that is removed
abbrev pub first_touched : List NamedFile → List (List ℕ) → List ℕ
first_touched (change ∷ changes) removed = change.0
first_touched [] (name ∷ removed) = name
first_touched [] [] = []

-- the queue that is left of one: with this floor, and without the cycles below it and their images
pub record IsLeftOf (queue : SavedQueue) (floor : ℕ) (left : SavedQueue) : Type 0 where
  pub config : left.config ≡ queue.config
  pub positions : left.contents.positions ≡ queue.contents.positions
  pub floor_is : left.contents.floor ≡ floor
  pub images : left.images.items ≡ kept_images floor queue.images.items
