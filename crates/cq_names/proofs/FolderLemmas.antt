-- What the folder of a queue holds whose names were changed.
use Rattle.std.proofs.Common.{◌≡◌, ℕ, Bool, List, [], ◌∷◌, length, map, ap, refl, subst, sym, ◌∙◌}
use Rattle.std.specs.Prelude.{Contains, IsSome, IsSomeAnd, IsTrue, Option, Some, if◌then◌else◌}
use Rattle.std.specs.List.{AllByRecursion}
use Rattle.std.specs.Str.{bytes_eq}
use Rattle.std.proofs.lemmas.List.Elements.{All-contains_itself}
use Rattle.std.proofs.lemmas.Slice.Eq.{bytes_eq-Decides}
use Rattle.cq_config_text.specs.ConfigText.{IsTextOf}
use Rattle.cq_folder.specs.Folder.{Files, WritesFile}
use Rattle.cq_folder.specs.declared.names.TheConstants.{CONFIG_FILE}
use Rattle.cq_files.specs.Openable.{HoldOpenable}
use Rattle.cq_files.specs.Queue.{CanBeOpened, HaveEnds, HoldQueue, HoldsImage, IsLawfulImage, ListsImages, contents_from, contents_in, ends_as_image, file_of, list_in}
use Rattle.cq_files.specs.declared.opening.CycleImage.{CycleImage}
use Rattle.cq_files.specs.declared.opening.SavedQueue.{SavedQueue}
use Rattle.cq_files.proofs.ImageNames.{not_config}
use Rattle.cq_layout.proofs.Each.{each-from_all, each-weaker}
use Rattle.cq_model.specs.Settings.{IsLawfulSettings, Settings}
use Rattle.cq_model.specs.declared.contents.Contents.{Contents}
use Rattle.cq_model.proofs.TestLemmas.{false_if}
use Rattle.cq_orders.specs.declared.settings.NameChange.{NameChange}
use Rattle.cq_names.specs.Edits.{Edit, IsEdit, with_names, with_positions}
use Rattle.cq_names.specs.Left.{IsLeftOf}
use Rattle.cq_names.specs.Names.{IsChanged}
use Rattle.cq_names.proofs.LeftLemmas.{contents_left, settings_left}

-- what an image holds has nothing to do with the names
image_still : (settings : Settings) (names : List (List ℕ)) (image : CycleImage) → IsLawfulImage settings image
    → IsLawfulImage (with_names settings names) image
image_still settings names image is = record {
  named = record { name = is.named.name; exists = is.named.exists; named = is.named.named; spelled = is.named.spelled };
  fits = is.fits;
}

module _ (queue : SavedQueue) (before after : Files) (config : List ℕ) (held : HoldQueue queue before)
    (written : WritesFile (Some before) (Some after) CONFIG_FILE.now config) where
  -- a file that is no configuration
  untouched : (name : List ℕ) → IsTrue (ends_as_image name) → after name ≡ before name
  untouched name ending =
      written name
      ∙ ap (λ (b : Bool). if b then Some config else before name)
      (false_if (bytes_eq CONFIG_FILE.now name) (λ is. not_config name ending ((bytes_eq-Decides CONFIG_FILE.now name).0 is)))

  pub config_there : after CONFIG_FILE.now ≡ Some config
  config_there =
      written CONFIG_FILE.now
      ∙ ap (λ (b : Bool). if b then Some config else before CONFIG_FILE.now) ((bytes_eq-Decides CONFIG_FILE.now CONFIG_FILE.now).1 refl)

  endings : AllByRecursion (λ (name : List ℕ). IsTrue (ends_as_image name)) (map file_of queue.images.items)
  endings = each-weaker (Contains (map file_of queue.images.items)) (λ (name : List ℕ). IsTrue (ends_as_image name))
      (λ name has. (held.listed.held name has).ending) (map file_of queue.images.items)
      (each-from_all (Contains (map file_of queue.images.items)) (map file_of queue.images.items) (All-contains_itself (map file_of queue.images.items)))

  pub images_still : (settings : Settings) → ((image : CycleImage) → HoldsImage queue.config before image → HoldsImage settings before image)
      → AllByRecursion (HoldsImage settings after) queue.images.items
  images_still settings same = by queue.images.items held.images endings
    where
      by : (list : List CycleImage) → AllByRecursion (HoldsImage queue.config before) list
          → AllByRecursion (λ (name : List ℕ). IsTrue (ends_as_image name)) (map file_of list) → AllByRecursion (HoldsImage settings after) list
      by [] holds ends = tt
      by (image ∷ list) holds ends = (untouched (file_of image) ends.0 ∙ same image holds.0, by list holds.1 ends.1)

  pub listed_still : ListsImages (map file_of queue.images.items) after
  listed_still = record {
    rising = held.listed.rising;
    held = λ file has. let was = held.listed.held file has in
        record { ending = was.ending; there = subst IsSome (sym (untouched file was.ending)) was.there };
    whole = λ file is. held.listed.whole file (record { ending = is.ending; there = subst IsSome (untouched file is.ending) is.there });
  }

-- what is held by what is left
pub held_left : (queue left : SavedQueue) (edit : Edit) → IsLeftOf queue edit left
    → contents_in left ≡ with_positions (contents_in queue) edit.positions
held_left queue left edit is =
    ap (λ (list : List CycleImage). contents_from (map list_in list) left.contents.positions left.contents.floor) is.images
    ∙ ap (λ (ps : List ℕ). contents_from (map list_in queue.images.items) ps left.contents.floor) is.positions
    ∙ ap (λ (n : ℕ). contents_from (map list_in queue.images.items) edit.positions n) is.floor

-- a folder in which names were changed holds what is left, and it can be opened
pub folder_left : (change : NameChange) (queue left : SavedQueue) (edit : Edit) (before after : Files) (config : List ℕ)
    → HoldOpenable queue before → IsEdit change queue.config (contents_in queue) edit
    → IsTextOf (with_names queue.config edit.names) edit.positions queue.contents.floor config
    → WritesFile (Some before) (Some after) CONFIG_FILE.now config → IsLeftOf queue edit left
    → HoldOpenable left after
folder_left change queue left edit before after config opened edited is_text written is = record {
  lawful = record {
    settings = subst IsLawfulSettings (sym is.config) (settings_left change queue.config (contents_in queue) edit opened.lawful.settings edited);
    images = of_left (λ (s : Settings) (list : List CycleImage). AllByRecursion (IsLawfulImage s) list)
        (each-weaker (IsLawfulImage queue.config) (IsLawfulImage (with_names queue.config edit.names)) (image_still queue.config edit.names)
        queue.images.items opened.lawful.images);
    ends = subst (λ (list : List CycleImage). HaveEnds list) (sym is.images) opened.lawful.ends;
    paired = ap length is.positions ∙ paired_left ∙ ap (λ (s : Settings). length s.names) (sym is.config);
  };
  held = record {
    config = subst (λ (s : Settings). IsSomeAnd (after CONFIG_FILE.now) (IsTextOf s left.contents.positions left.contents.floor)) (sym is.config)
        (subst (λ (ps : List ℕ). IsSomeAnd (after CONFIG_FILE.now) (IsTextOf (with_names queue.config edit.names) ps left.contents.floor)) (sym is.positions)
        (subst (λ (n : ℕ). IsSomeAnd (after CONFIG_FILE.now) (IsTextOf (with_names queue.config edit.names) edit.positions n)) (sym is.floor)
        (subst (λ (o : Option (List ℕ)). IsSomeAnd o (IsTextOf (with_names queue.config edit.names) edit.positions queue.contents.floor))
        (sym (config_there queue before after config opened.held written)) is_text)));
    images = of_left (λ (s : Settings) (list : List CycleImage). AllByRecursion (HoldsImage s after) list)
        (images_still queue before after config opened.held written (with_names queue.config edit.names) (λ image holds. holds));
    listed = subst (λ (list : List CycleImage). ListsImages (map file_of list) after) (sym is.images)
        (listed_still queue before after config opened.held written);
  };
  openable = subst (λ (c : Contents). CanBeOpened left.config c) (sym (held_left queue left edit is))
      (subst (λ (s : Settings). CanBeOpened s (with_positions (contents_in queue) edit.positions)) (sym is.config) openable_left);
}
  where
    of_left : (P : Settings → List CycleImage → Type 0) → P (with_names queue.config edit.names) queue.images.items → P left.config left.images.items
    of_left P holds =
        subst (λ (s : Settings). P s left.images.items) (sym is.config)
        (subst (λ (list : List CycleImage). P (with_names queue.config edit.names) list) (sym is.images) holds)

    openable_left : CanBeOpened (with_names queue.config edit.names) (with_positions (contents_in queue) edit.positions)
    openable_left = contents_left change queue.config (contents_in queue) edit opened.openable opened.lawful.paired edited

    paired_left : length edit.positions ≡ length edit.names
    paired_left = is_text.writable.declared.paired

-- the same of a command that was done
pub changed_left : (change : NameChange) (before after : Files) (text : List ℕ) (left : SavedQueue)
    → (done : IsChanged change (Some before) (Some after) text) → IsLeftOf done.queue done.edit left
    → HoldOpenable left after × (contents_in left ≡ with_positions (contents_in done.queue) done.edit.positions)
changed_left change before after text left done is = (
  folder_left change done.queue left done.edit before after done.config
      (record {
        lawful = done.opened.lawful;
        held = done.opened.held;
        openable = subst (CanBeOpened done.queue.config) done.opened.whole done.opened.openable;
      })
      (subst (λ (c : Contents). IsEdit change done.queue.config c done.edit) done.opened.whole done.edited)
      done.config_is done.written is,
  held_left done.queue left done.edit is,
)
