-- The images of a folder of version 1, and the same in version 2.
use Rattle.std.proofs.Common.{◌≡◌, ◌+◌, ◌*◌, ◌≤◌, ℕ, List, [], ◌∷◌, ◌++◌, ◌⊎◌, ◌≢◌, Bool, true, false, suc, length, map, ap, arith, inl, inr, refl, subst, sym, ◌∙◌}
use Rattle.std.specs.Prelude.{Option, None, Some, IfErr, IfSome, Result, Ok, Err, if◌then◌else◌, sum_by, OnErr}
use Rattle.std.specs.Int.{div_ceil}
use Rattle.std.specs.List.{AllByRecursion}
use Rattle.cq_layout.specs.Messages.{AreNext, IsNext}
use Rattle.cq_layout.specs.Room.{messages_per_table, needs, record_cells, table_cells}
use Rattle.cq_layout.specs.Layout.{CycleLayout}
use Rattle.cq_layout.specs.StoreRecord.{origin_cells}
use Rattle.cq_model.specs.Settings.{IsLawfulSettings, Settings}
use Rattle.cq_image.specs.Versions.{begins_as}
use Rattle.cq_config_text.specs.ConfigText.{IsTextOf}
use Rattle.cq_folder.specs.Folder.{Files, KeepsFiles, KeepsOrWrites, NamedFile, WritesFiles}
use Rattle.cq_folder.specs.declared.names.TheConstants.{CONFIG_FILE}
use Rattle.cq_layout.specs.Version.{is_current}
use Rattle.cq_config_text.specs.declared.config_text.SavedConfig.{SavedConfig}
use Rattle.cq_text.specs.declared.fault.ToolFault.{ToolFault}
use Rattle.cq_text.specs.declared.fault.ToolFault.TheVariants.{BadCycleName, FaultyImage, FileFault, FileTooLarge, FolderFault, OutOfMemory, WriteFault, WrongEnd}
use Rattle.cq_text.specs.Faults.{IsDeviceFault}
use Rattle.cq_files.specs.declared.opening.CycleImage.{CycleImage}
use Rattle.cq_files.specs.declared.opening.ImageFile.{ImageFile}
use Rattle.cq_files.specs.FolderFaults.{HasCause, HasSettings, HoldsConfig, IsEndFault, IsFileFault, IsImageFault, IsLimitFault, IsNamingFault, IsReached, IsSaveFault, TellsFile}
use Rattle.cq_file_commands.specs.Migrated.{AreInEither, AreMovedFiles, AreMovedImages, HasImageCause, HoldsEither, IsMigrateFault, IsMoveFault, IsMoveFaultOf, IsMoved, IsMovingFault, IsWholeInEither, MovesFiles, moved_file, moved_settings, moving_layout, TellsMoved}
use Rattle.cq_files.specs.Queue.{AreImageFiles, HaveEnds, IsImageName, IsOpenFolder, ListsImages, file_of}
use Rattle.cq_files.specs.Saved.{first_file}
use Rattle.cq_files.proofs.CauseLemmas.{config_there, has_settings}
use Rattle.cq_files.proofs.OrderLemmas.{all_files}
use Rattle.cq_files.proofs.OrderLemmas.{is_reached, name_in}
use Rattle.cq_files.proofs.QueueLemmas.{file_part, files_of, keeps-trans, of_before}
use Rattle.cq_files.proofs.WritingLemmas.{kept_then_written}

-- the store record of version 2 takes three cells more
three_more : (origin tables records : ℕ) → 1 + (6 + 3) + tables + records ≤ 1 + (6 + origin) + tables + records + 3
three_more origin tables records = omega arith

needs_moved : (settings : Settings) (lengths : List ℕ) → needs (moved_settings settings).layout lengths ≤ needs settings.layout lengths + 3
needs_moved settings [] = omega arith
needs_moved settings (len ∷ lengths) =
    three_more (length (origin_cells settings.layout.store))
    (table_cells settings.layout * (1 + div_ceil (suc (length lengths)) (messages_per_table settings.layout)))
    (sum_by record_cells (len ∷ lengths))

next_moved : (settings : Settings) (lengths : List ℕ) (message : List ℕ) → IsNext settings.layout lengths message
    → IsNext (moved_settings settings).layout lengths message
next_moved settings lengths message is =
    let more = needs_moved settings (lengths ++ length message ∷ []) in
    let room = is.room.room in
    record {
      lawful = is.lawful;
      room = record { room = omega (arith, more, room); entries = is.room.entries };
    }

-- messages that fitted fit
pub next_fit : (settings : Settings) (lengths : List ℕ) (messages : List (List ℕ)) → AreNext settings.layout lengths messages
    → AreNext (moved_settings settings).layout lengths messages
next_fit settings lengths [] fit = tt
next_fit settings lengths (message ∷ messages) fit =
    (next_moved settings lengths message fit.0, next_fit settings (lengths ++ length message ∷ []) messages fit.1)

-- so do those that were read by either version
pub read_fit : (settings : Settings) (layout version : CycleLayout) (bytes : List ℕ) (messages : List (List ℕ))
    → layout ≡ (moved_settings settings).layout → version ≡ moving_layout settings bytes → AreNext version [] messages
    → AreNext layout [] messages
read_fit settings layout version bytes messages layout_is version_is fit =
    subst (λ (s : CycleLayout). AreNext s [] messages) (sym layout_is)
    (by (begins_as (moved_settings settings).layout bytes) (subst (λ (s : CycleLayout). AreNext s [] messages) version_is fit))
  where
    by : (second : Bool) → AreNext (if second then (moved_settings settings).layout else settings.layout) [] messages
        → AreNext (moved_settings settings).layout [] messages
    by true fit = fit
    by false fit = next_fit settings [] messages fit

-- why the file of an image is not read
pub file_cause : (a : Option Files) (settings : Settings) (name : List ℕ) (fault : ToolFault) → IsFileFault name fault
    → IfSome a (λ files. HoldsConfig files → HasCause files fault)
    → IfSome a (λ files. HasSettings files settings → HasImageCause settings files fault)
file_cause None settings name fault is cause = tt
file_cause (Some a) settings name OutOfMemory is cause = λ has. tt
file_cause (Some a) settings name (FileFault file) is cause = λ has. cause (config_there a settings has)
file_cause (Some a) settings name (FileTooLarge file) is cause = λ has. cause (config_there a settings has)
file_cause (Some a) settings name _ is cause = absurd is

-- why an image is not moved, where all before it are as they must be
image_not_moved : (settings : Settings) (held : Files) (name : List ℕ) (fault : ToolFault) → IsImageFault name fault
    → HasImageCause settings held fault → IsReached IsWholeInEither held name → IsMovingFault settings held fault
image_not_moved settings held name OutOfMemory is cause reached = tt
image_not_moved settings held name (FileFault file) is cause reached = inl (subst (IsReached IsWholeInEither held) (sym is) reached)
image_not_moved settings held name (FileTooLarge file) is cause reached = (cause, subst (IsReached IsWholeInEither held) (sym is) reached)
image_not_moved settings held name (FaultyImage file fault) is cause reached = (cause, subst (IsReached IsWholeInEither held) (sym is) reached)
image_not_moved settings held name _ is cause reached = absurd is

pub first_not_moved : (a b : Option Files) (settings : Settings) (files front rest : List ImageFile) (file : ImageFile) (fault : ToolFault)
    → files ≡ front ++ file ∷ rest → KeepsFiles a b
    → IfSome a (λ held. AllByRecursion (λ (file : ImageFile). IsWholeInEither held settings (name_in file)) front)
    → IsImageFault (name_in file) fault → IfSome b (λ held. HasSettings held settings → HasImageCause settings held fault)
    → IfSome a (λ held. HasSettings held settings → IsLawfulSettings settings → AreImageFiles settings files held
    → IsMovingFault settings held fault)
first_not_moved None b settings files front rest file fault files_are kept all is cause = tt
first_not_moved (Some a) b settings files front rest file fault files_are kept all is cause = λ configured lawful are.
    image_not_moved settings a (name_in file) fault is
    (of_before (Some a) b (λ held. HasSettings held settings → HasImageCause settings held fault) kept cause configured)
    (is_reached IsWholeInEither a settings files front rest file files_are configured lawful are all)

-- the images that were read, as the files of the folder
each_named : (settings : Settings) (images : List CycleImage)
    → AllByRecursion (λ (file : ImageFile). IsImageName settings file.cycle (name_in file)) (map file_part images)
    → AllByRecursion (λ (image : CycleImage). IsImageName settings image.file.cycle (file_of image)) images
each_named settings [] named = tt
each_named settings (image ∷ images) named = (named.0, each_named settings images named.1)

in_either : (a : Files) (settings : Settings) (files : List ImageFile) (images : List CycleImage) → AreImageFiles settings files a
    → map file_part images ≡ files
    → AllByRecursion (λ (image : CycleImage). AreNext (moved_settings settings).layout [] image.messages) images
    → AllByRecursion (HoldsEither settings a) images → AreInEither settings images a
in_either a settings files images are same fit held = record {
  named = each_named settings images
      (subst (AllByRecursion (λ (file : ImageFile). IsImageName settings file.cycle (name_in file))) (sym same) are.named);
  fit = fit;
  held = held;
  listed = subst (λ (names : List (List ℕ)). ListsImages names a) (sym (files_of images files same)) are.listed;
}

-- the images in version 2
pub images_moved : (a : Option Files) (settings : Settings) (files : List ImageFile) (images : List CycleImage) (moved : List NamedFile)
    → map file_part images ≡ files → moved ≡ map (moved_file settings) images
    → AllByRecursion (λ (image : CycleImage). AreNext (moved_settings settings).layout [] image.messages) images
    → IfSome a (λ held. AllByRecursion (HoldsEither settings held) images) → HaveEnds images
    → IfSome a (λ held. AreImageFiles settings files held → AreMovedImages settings held moved)
images_moved None settings files images moved same made fit held ends = tt
images_moved (Some a) settings files images moved same made fit held ends = λ are. record {
  images = images;
  read = in_either a settings files images are same fit held;
  ends = ends;
  made = made;
}

-- images are not moved where one of them ends wrongly
pub end_not_moved : (a : Option Files) (settings : Settings) (files : List ImageFile) (images : List CycleImage) (fault : ToolFault)
    → map file_part images ≡ files
    → AllByRecursion (λ (image : CycleImage). AreNext (moved_settings settings).layout [] image.messages) images
    → IfSome a (λ held. AllByRecursion (HoldsEither settings held) images) → IsEndFault images fault
    → IfSome a (λ held. HasSettings held settings → IsLawfulSettings settings → AreImageFiles settings files held
    → IsMovingFault settings held fault)
end_not_moved None settings files images fault same fit held ends = tt
end_not_moved (Some a) settings files images OutOfMemory same fit held ends = λ configured lawful are. tt
end_not_moved (Some a) settings files images (WrongEnd file) same fit held ends = λ configured lawful are.
    record { images = images; read = in_either a settings files images are same fit held; first = ends }
end_not_moved (Some a) settings files images _ same fit held ends = absurd ends

-- all files in version 2
pub files_moved : (a : Option Files) (saved : SavedConfig) (names : List (List ℕ)) (files : List ImageFile) (images moved : List NamedFile)
    (settings : Settings) (config : List ℕ) → settings ≡ moved_settings saved.config → IsLawfulSettings (moved_settings saved.config)
    → AllByRecursion (λ (file : ImageFile). IsImageName saved.config file.cycle (name_in file)) files → map name_in files ≡ names
    → IfSome a (λ held. AreImageFiles saved.config files held → AreMovedImages saved.config held images)
    → IsTextOf settings saved.positions.items saved.floor config → moved ≡ images ++ (CONFIG_FILE.now, config) ∷ []
    → IfSome a (λ held. ListsImages names held → AreMovedFiles saved held moved)
files_moved None saved names files images moved settings config settings_is lawful named same all spelled in_turn = tt
files_moved (Some a) saved names files images moved settings config settings_is lawful named same all spelled in_turn = λ listed. record {
  images = images;
  config = config;
  lawful = lawful;
  all = all (all_files (Some a) saved.config files names named same listed);
  spelled = subst (λ (s : Settings). IsTextOf s saved.positions.items saved.floor config) settings_is spelled;
  in_turn = in_turn;
}

-- a folder is not moved where a name names no cycle
bad_name_is_first : (settings : Settings) (files : Files) (fault : ToolFault) → IsNamingFault files fault → HasCause files fault
    → IsMovingFault settings files fault
bad_name_is_first settings files OutOfMemory first cause = tt
bad_name_is_first settings files (BadCycleName file) first cause = (cause, first)
bad_name_is_first settings files _ first cause = absurd first

pub names_not_moved : (a : Option Files) (settings : Settings) (names : List (List ℕ)) (fault : ToolFault)
    → IsLawfulSettings (moved_settings settings) → ((files : Files) → HasSettings files settings → HasCause files fault)
    → ((files : Files) → HasSettings files settings → IsLawfulSettings settings → ListsImages names files → IsNamingFault files fault)
    → IfSome a (λ files. HasSettings files settings → IsLawfulSettings settings → ListsImages names files → IsMoveFault settings files fault)
names_not_moved None settings names fault moved cause first = tt
names_not_moved (Some a) settings names fault moved cause first = λ configured lawful listed.
    inr (moved, bad_name_is_first settings a fault (first a configured lawful listed) (cause a configured))

-- nor where its images are not moved
pub images_not_moved : (a : Option Files) (settings : Settings) (names : List (List ℕ)) (files : List ImageFile) (fault : ToolFault)
    → IsLawfulSettings (moved_settings settings)
    → AllByRecursion (λ (file : ImageFile). IsImageName settings file.cycle (name_in file)) files → map name_in files ≡ names
    → IfSome a (λ held. HasSettings held settings → IsLawfulSettings settings → AreImageFiles settings files held
    → IsMovingFault settings held fault)
    → IfSome a (λ files. HasSettings files settings → IsLawfulSettings settings → ListsImages names files → IsMoveFault settings files fault)
images_not_moved None settings names files fault moved named same cause = tt
images_not_moved (Some a) settings names files fault moved named same cause = λ configured lawful listed.
    inr (moved, cause configured lawful (all_files (Some a) settings files names named same listed))

-- nor where its files are not saved, of which the first is told
first_moved : (images : List NamedFile) (config : List ℕ)
    → first_file [] (images ++ (CONFIG_FILE.now, config) ∷ []) ≡ first_file CONFIG_FILE.now images
first_moved [] config = refl
first_moved (image ∷ images) config = refl

not_saved : (saved : SavedConfig) (files : Files) (moved : List NamedFile) (fault : ToolFault) → AreMovedFiles saved files moved
    → IsSaveFault fault → TellsFile (λ name. name ≡ first_file [] moved) fault → fault ≢ WriteFault
    → IsMoveFault saved.config files fault
not_saved saved files moved OutOfMemory are is told unprinted = inl tt
not_saved saved files moved (FileFault file) are is told unprinted = inr (
  are.lawful,
  inr (are.images, are.all, told ∙ ap (first_file []) are.in_turn ∙ first_moved are.images are.config),
)
not_saved saved files moved WriteFault are is told unprinted = absurd (unprinted refl)
not_saved saved files moved _ are is told unprinted = absurd is

pub save_not_moved : {T : Type 0} (a : Option Files) (saved : SavedConfig) (names : List (List ℕ)) (moved : List NamedFile)
    (result : Result T ToolFault) → IfSome a (λ files. ListsImages names files → AreMovedFiles saved files moved)
    → IfErr result IsSaveFault → IfErr result (TellsFile (λ name. name ≡ first_file [] moved)) → IfErr result (λ fault. fault ≢ WriteFault)
    → IfErr result (λ fault. IfSome a (λ files. HasSettings files saved.config → IsLawfulSettings saved.config → ListsImages names files
    → IsMoveFault saved.config files fault))
save_not_moved a saved names moved (Ok value) are is told unprinted = tt
save_not_moved None saved names moved (Err fault) are is told unprinted = tt
save_not_moved (Some a) saved names moved (Err fault) are is told unprinted = λ configured lawful listed.
    not_saved saved a moved fault (are listed) is told unprinted

-- the files were moved, behind calls that kept them
pub moves_files : {a c : Option Files} {saved : SavedConfig} {names : List (List ℕ)} (b : Option Files) (moved : List NamedFile)
    → IfSome a (λ files. ListsImages names files → AreMovedFiles saved files moved) → KeepsFiles a b → WritesFiles b c moved
    → MovesFiles saved names a c
moves_files {a} {c} b moved are kept written =
    record { moved = moved; are = are; written = kept_then_written a b c moved kept written }

-- and where they moved, a file fault tells the first of them
pub tells_moving : {T : Type 0} (result : Result T ToolFault) (a b c : Option Files) (saved : SavedConfig) (names : List (List ℕ))
    (moved : List NamedFile) → IfSome a (λ files. ListsImages names files → AreMovedFiles saved files moved) → KeepsFiles a b
    → OnErr result (KeepsOrWrites b c moved) → IfErr result (TellsFile (λ name. name ≡ first_file [] moved))
    → IfErr result (λ fault. KeepsFiles a c
    ⊎ ((moves : MovesFiles saved names a c) × TellsFile (λ name. name ≡ first_file [] moves.moved) fault))
unfolding moves_files
tells_moving (Ok value) a b c saved names moved are kept whole told = tt
tells_moving (Err fault) a b c saved names moved are kept (inl same) told = inl (keeps-trans a b c kept same)
tells_moving (Err fault) a b c saved names moved are kept (inr written) told = inr (moves_files b moved are kept written, told)

still_moved : (a b : Option Files) (saved : SavedConfig) (names : List (List ℕ)) (moved : List NamedFile) → KeepsFiles a b
    → IfSome a (ListsImages names) → IfSome b (λ files. ListsImages names files → AreMovedFiles saved files moved)
    → IfSome a (λ files. AreMovedFiles saved files moved)
still_moved None b saved names moved kept listed are = tt
still_moved (Some a) b saved names moved kept listed are =
    of_before (Some a) b (λ files. ListsImages names files → AreMovedFiles saved files moved) kept are listed

-- the folder of version 1 that was opened was moved, by what was read of it
module _ {a : Option Files} {saved : SavedConfig} {names : List (List ℕ)} (b : Option Files) (opened : IsOpenFolder a saved names)
    (old : is_current saved.config.layout.store ≡ false) (kept : KeepsFiles a b) where
  pub was_moved : (c : Option Files) → MovesFiles saved names b c → IsMoved a c
  was_moved c moves = record {
    saved = saved;
    moved = moves.moved;
    old = old;
    lawful = opened.lawful;
    low = opened.low;
    configured = opened.config;
    are = still_moved a b saved names moves.moved kept opened.images moves.are;
    written = kept_then_written a b c moves.moved kept moves.written;
  }

  -- and where it was moved, a file fault tells the first file
  pub tells_moved : {T : Type 0} (c : Option Files) (result : Result T ToolFault)
      → IfErr result (λ fault. KeepsFiles b c
      ⊎ ((moves : MovesFiles saved names b c) × TellsFile (λ name. name ≡ first_file [] moves.moved) fault))
      → IfErr result (λ fault. KeepsFiles a c ⊎ TellsMoved a c fault)
  unfolding was_moved
  tells_moved c (Ok value) told = tt
  tells_moved c (Err fault) (inl same) = inl (keeps-trans a b c kept same)
  tells_moved c (Err fault) (inr (moves, told)) = inr (was_moved c moves, told)

  -- or it is not, and why
  pub migrate_fault : {T : Type 0} (result : Result T ToolFault)
      → IfErr result (λ fault. IfSome b (λ files. IsMoveFaultOf saved.config names files fault))
      → IfErr result (λ fault. IfSome a (λ files. IsMigrateFault files fault))
  unfolding has_settings
  migrate_fault (Ok value) cause = tt
  migrate_fault (Err fault) cause = by a b opened kept cause
    where
      by : (a b : Option Files) → IsOpenFolder a saved names → KeepsFiles a b → IfSome b (λ files. IsMoveFaultOf saved.config names files fault)
          → IfSome a (λ files. IsMigrateFault files fault)
      by None b opened kept cause = tt
      by (Some a) b opened kept cause =
          let configured = has_settings (Some a) opened in
          inr (record {
            settings = saved.config;
            configured = configured;
            lawful = opened.lawful;
            low = opened.low;
            old = old;
            cause = of_before (Some a) b (λ files. IsMoveFaultOf saved.config names files fault) kept cause configured opened.lawful opened.images;
          })

-- limits that are passed are no fault of the device
pub limits_need_no_device : (settings : Settings) (fault : ToolFault) → IsLimitFault settings fault → ¬ IsDeviceFault fault
limits_need_no_device settings FolderFault limit device = absurd limit
limits_need_no_device settings (FileFault file) limit device = absurd limit
limits_need_no_device settings _ limit device = absurd device
