-- What is kept of an image that is repaired, and what becomes of the queue's names.
use Rattle.std.specs.Prelude.{◌≡◌, ◌≢◌, ℕ, List, [], ◌∷◌, ◌++◌, ◌==◌, Bool, if◌then◌else◌, codes, length, map, nat_le}
use Rattle.std.specs.Fmt.{decimal}
use Rattle.std.specs.List.{flat_map, zip}
use Rattle.cq_config_text.specs.ConfigText.{IsTextOf}
use Rattle.cq_cycle.specs.Index.{cycle_in, index_of, index_text}
use Rattle.cq_folder.specs.Folder.{NamedFile}
use Rattle.cq_folder.specs.declared.names.TheConstants.{CONFIG_FILE}
use Rattle.cq_image.specs.Image.{image_of}
use Rattle.cq_image.specs.Salvage.{salvage_of}
use Rattle.cq_image.specs.declared.found.Salvaged.{Salvaged}
use Rattle.cq_repair.specs.declared.finding.Found.{Found}

-- what `salvage` finds in the file
abbrev pub salvaged : Found → Salvaged
salvaged found = salvage_of found.saved.config.layout found.cycle found.bytes.items

-- the index after the messages that are kept
abbrev pub end_of_kept : Found → ℕ
end_of_kept found = index_of found.cycle (length (salvaged found).messages)

-- where a name is after the repair: right after what is kept at most, but a position in another cycle stays if this one has ended
abbrev pub lowered : Bool → ℕ → ℕ → ℕ
lowered ended end position = if nat_le position end then position else
    (if ended then (if cycle_in position == cycle_in end then end else position) else end)

-- the positions of all names after the repair
abbrev pub positions_after : Bool → Found → List ℕ
positions_after ended found = map (lowered ended (end_of_kept found)) found.saved.positions.items

-- the new image
abbrev pub image_after : Bool → Found → List ℕ
image_after ended found = image_of found.saved.config.layout found.cycle (salvaged found).messages ended

-- the new name of the old file
abbrev pub bad_name : List ℕ → List ℕ
bad_name file = file ++ codes ".bad"

-- the old file under its new name
abbrev pub old_file : List ℕ → Found → NamedFile
old_file file found = (bad_name file, found.bytes.items)

-- the new image, and the configuration where a name moves
pub data AreChanges (file : List ℕ) (ended : Bool) (found : Found) (changes : List NamedFile) : Type 0 where
  image : positions_after ended found ≡ found.saved.positions.items → changes ≡ (file, image_after ended found) ∷ []
      → AreChanges file ended found changes
  both : (text : List ℕ) → positions_after ended found ≢ found.saved.positions.items
      → IsTextOf found.saved.config (positions_after ended found) found.saved.floor text
      → changes ≡ (file, image_after ended found) ∷ (CONFIG_FILE.now, text) ∷ [] → AreChanges file ended found changes

-- the words that differ where nothing is changed
abbrev pub kept_words : Bool → List ℕ
kept_words dry = if dry then codes " messages would be kept, the old file would be " else codes " messages kept, the old file is "

abbrev pub moved_words : Bool → List ℕ
moved_words dry = if dry then codes " would move from " else codes " moved from "

-- the line of the file
abbrev pub file_line : Bool → List ℕ → ℕ → List ℕ
file_line dry file count = file ++ (codes ": " ++ (decimal count ++ (kept_words dry ++ (file ++ codes ".bad\n"))))

-- the line of a name that moves
abbrev pub moved_line : Bool → List ℕ → ℕ → ℕ → List ℕ
moved_line dry name from to = name ++ (moved_words dry ++ (index_text from ++ (codes " to " ++ (index_text to ++ codes "\n"))))

-- the same, and nothing of one that stays
abbrev pub name_line : Bool → Bool → ℕ → List ℕ → ℕ → List ℕ
name_line dry ended end name position =
    if lowered ended end position == position then [] else moved_line dry name position (lowered ended end position)

-- the lines of all names that move
abbrev pub name_lines : Bool → Bool → ℕ → List (List ℕ) → List ℕ → List ℕ
name_lines dry ended end names positions = flat_map (λ named. name_line dry ended end named.0 named.1) (zip names positions)

-- what is printed
abbrev pub repair_text : Bool → List ℕ → Bool → Found → List ℕ
repair_text dry file ended found = file_line dry file (length (salvaged found).messages)
    ++ name_lines dry ended (end_of_kept found) found.saved.config.names found.saved.positions.items
