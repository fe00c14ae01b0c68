-- What the folder of a queue that was trimmed holds.
use Rattle.std.proofs.Common.{◌≡◌, ◌⊎◌, ◌≤◌, ◌/◌, ℕ, zero, suc, Bool, true, false, not, List, [], ◌∷◌, cond, length, map, max, min, filter, ap, arith, inl, inr, refl, subst, sym, ◌∙◌}
use Rattle.std.specs.Prelude.{Contains, IsSome, IsSomeAnd, IsTrue, Option, None, Some, if◌then◌else◌, nat_le, nat_lt}
use Rattle.std.specs.List.{AllByRecursion}
use Rattle.std.specs.List.Sorted.{IsStrictlySortedBy}
use Rattle.std.specs.Str.{bytes_eq}
use Rattle.std.specs.declared.cmp.Ordering.TheVariants.{Less}
use Rattle.std.proofs.lemmas.List.{append_cancel_right}
use Rattle.std.proofs.lemmas.Bool.{false≢true}
use Rattle.std.proofs.lemmas.List.Elements.{All-contains, All-contains_itself}
use Rattle.std.proofs.lemmas.Slice.Eq.{bytes_eq-Decides}
use Rattle.cq_config_text.specs.ConfigText.{IsTextOf}
use Rattle.cq_cycle.specs.Cycle.{length_of, start_of}
use Rattle.cq_cycle.specs.declared.roll.Roll.TheVariants.{Daily}
use Rattle.cq_cycle.proofs.NameLemmas.{date_text_injective, same_cycle}
use Rattle.cq_folder.specs.Folder.{Files, NamedFile, SavesAndRemoves, after_removals, after_writes}
use Rattle.cq_folder.specs.declared.names.TheConstants.{CONFIG_FILE, IMAGE_ENDING}
use Rattle.cq_files.specs.Openable.{HoldOpenable}
use Rattle.cq_files.specs.Queue.{CanBeOpened, HaveEnds, HoldQueue, HoldsImage, IsImageFile, IsLawfulImage, IsLawfulQueue, ListsImages, contents_from, contents_in, ends_as_image, file_of, list_in, name_cmp}
use Rattle.cq_files.specs.declared.opening.CycleImage.{CycleImage}
use Rattle.cq_files.specs.declared.opening.SavedQueue.{SavedQueue}
use Rattle.cq_files.proofs.ImageNames.{not_config}
use Rattle.cq_layout.proofs.Each.{each-all, each-filter, each-from_all, each-weaker}
use Rattle.cq_model.specs.Settings.{IsLawfulSettings, Settings}
use Rattle.cq_model.specs.States.{last_cycle}
use Rattle.cq_model.specs.declared.contents.Contents.{Contents}
use Rattle.cq_model.specs.declared.contents.CycleList.{CycleList}
use Rattle.cq_model.proofs.TestLemmas.{false_if, is_le, is_lt, le_is, lt_is, not_le}
use Rattle.cq_orders.specs.declared.settings.TrimSettings.{TrimSettings}
use Rattle.cq_trim.specs.Floors.{raised_floor}
use Rattle.cq_trim.specs.Trimmed.{AreChanges, IsLeftOf, Leaves, kept_images, kept_lists, raised, removed_files, same, trimmed}
use Rattle.cq_trim.specs.Trims.{IsTrimmed}
use Rattle.cq_trim.proofs.KeptLemmas.{lawful_still}

-- names that are not the same
differ : (a b : List ℕ) → (a ≡ b → ⊥) → bytes_eq a b ≡ false
differ a b apart = false_if (bytes_eq a b) (λ is. apart ((bytes_eq-Decides a b).0 is))

-- what is left of the files where one is removed
abbrev without : List ℕ → Files → Files
without removed files name = if bytes_eq removed name then None else files name

-- a file of another name than those removed holds what it held
not_removed : (names : List (List ℕ)) (files : Files) (name : List ℕ) → AllByRecursion (λ (removed : List ℕ). removed ≡ name → ⊥) names
    → after_removals names files name ≡ files name
not_removed [] files name apart = refl
not_removed (removed ∷ names) files name apart =
    not_removed names (without removed files) name apart.1
    ∙ ap (λ (b : Bool). if b then None else files name) (differ removed name apart.0)

-- a file that is gone stays so
gone : (names : List (List ℕ)) (files : Files) (name : List ℕ) → files name ≡ None → after_removals names files name ≡ None
gone [] files name none = none
gone (removed ∷ names) files name none =
    gone names (without removed files) name
    (elim (bytes_eq removed name) as (λ b. (if b then None else files name) ≡ None) [
      | true ↦ refl
      | false ↦ none
    ])

-- a removed file is gone
removed_gone : (names : List (List ℕ)) (files : Files) (name : List ℕ) → Contains names name → after_removals names files name ≡ None
removed_gone [] files name (k, low, at) = absurd (omega (arith, low))
removed_gone (removed ∷ names) files name (zero, low, at) =
    gone names (without removed files) name (ap (λ (b : Bool). if b then None else files name) ((bytes_eq-Decides removed name).1 at))
removed_gone (removed ∷ names) files name (suc k, low, at) =
    removed_gone names (without removed files) name (k, omega (arith, low), at)

-- only the configuration is written
only_config : {settings : Settings} {contents : Contents} {floor : ℕ} (changes : List NamedFile) (files : Files) (name : List ℕ)
    → AreChanges settings contents floor changes → (CONFIG_FILE.now ≡ name → ⊥) → after_writes changes files name ≡ files name
only_config changes files name (same floor none) apart = ap (λ (cs : List NamedFile). after_writes cs files name) none
only_config changes files name (raised text floor is_text one) apart =
    ap (λ (cs : List NamedFile). after_writes cs files name) one
    ∙ ap (λ (b : Bool). if b then Some text else files name) (differ CONFIG_FILE.now name apart)

-- what is said of the names of some images is said of the names of fewer
fewer_names : (P : List ℕ → Type 0) (test : CycleImage → Bool) (images : List CycleImage) → AllByRecursion P (map file_of images)
    → AllByRecursion P (map file_of (filter test images))
fewer_names P test [] all = tt
fewer_names P test (image ∷ images) all =
    elim (test image) as (λ b. AllByRecursion P (map file_of (cond b (image ∷ filter test images) (filter test images)))) [
      | true ↦ (all.0, fewer_names P test images all.1)
      | false ↦ fewer_names P test images all.1
    ]

-- fewer names rise
fewer_rise : (test : CycleImage → Bool) (images : List CycleImage) → IsStrictlySortedBy name_cmp (map file_of images)
    → IsStrictlySortedBy name_cmp (map file_of (filter test images))
unfolding IsStrictlySortedBy
fewer_rise test [] rise = tt
fewer_rise test (image ∷ images) rise =
    elim (test image) as (λ b. IsStrictlySortedBy name_cmp (map file_of (cond b (image ∷ filter test images) (filter test images)))) [
      | true ↦ (fewer_names (λ (y : List ℕ). name_cmp (file_of image) y ≡ Less) test images rise.0, fewer_rise test images rise.1)
      | false ↦ fewer_rise test images rise.1
    ]

further : (x : List ℕ) (xs : List (List ℕ)) (y : List ℕ) → Contains xs y → Contains (x ∷ xs) y
further x xs y (k, low, at) = (suc k, omega (arith, low), at)

-- the name of an image is among those that are kept, or those that are removed
either_part : (f : ℕ) (images : List CycleImage) (name : List ℕ) → Contains (map file_of images) name
    → Contains (map file_of (kept_images f images)) name ⊎ Contains (removed_files f images) name
either_part f [] name (k, low, at) = absurd (omega (arith, low))
either_part f (image ∷ images) name has = by (nat_le f image.file.cycle) refl (λ among. either_part f images name among) has
  where
    kept : List CycleImage
    kept = kept_images f images

    removed : List CycleImage
    removed = filter (λ (i : CycleImage). nat_lt i.file.cycle f) images

    test_removed : (b : Bool) → nat_le f image.file.cycle ≡ b → nat_lt image.file.cycle f ≡ not b
    test_removed true is = let low = le_is f image.file.cycle is in false_if (nat_lt image.file.cycle f)
        (λ less. let below = lt_is image.file.cycle f less in omega (arith, low, below))
    test_removed false is = is_lt image.file.cycle f (not_le f image.file.cycle is)

    Parts : Bool → Bool → Type 0
    Parts b c = Contains (map file_of (cond b (image ∷ kept) kept)) name ⊎ Contains (map file_of (cond c (image ∷ removed) removed)) name

    first : (b : Bool) → file_of image ≡ name → Parts b (not b)
    first true at = inl (0, omega arith, at)
    first false at = inr (0, omega arith, at)

    later : (b : Bool) → Contains (map file_of kept) name ⊎ Contains (map file_of removed) name → Parts b (not b)
    later true (inl among) = inl (further (file_of image) (map file_of kept) name among)
    later true (inr among) = inr among
    later false (inl among) = inl among
    later false (inr among) = inr (further (file_of image) (map file_of removed) name among)

    More : Type 0
    More = Contains (map file_of images) name → Contains (map file_of kept) name ⊎ Contains (map file_of removed) name

    part : (b : Bool) → More → Contains (map file_of (image ∷ images)) name → Parts b (not b)
    part b more (zero, low, at) = first b at
    part b more (suc k, low, at) = later b (more (k, omega (arith, low), at))

    by : (b : Bool) → nat_le f image.file.cycle ≡ b → More → Contains (map file_of (image ∷ images)) name
        → Parts (nat_le f image.file.cycle) (nat_lt image.file.cycle f)
    by b is more has =
        subst (λ (c : Bool). Parts c (nat_lt image.file.cycle f)) (sym is)
        (subst (λ (c : Bool). Parts b c) (sym (test_removed b is)) (part b more has))

-- a name belongs to one cycle
one_cycle : (settings : Settings) (a b : CycleImage) → IsLawfulImage settings a → IsLawfulImage settings b → file_of a ≡ file_of b
    → a.file.cycle ≡ b.file.cycle
one_cycle settings a b one two alike =
    let name = append_cancel_right one.named.name two.named.name IMAGE_ENDING.now (sym one.named.spelled ∙ alike ∙ two.named.spelled) in
    let left = one.named.named in
    let right = two.named.named in
    let parts = date_text_injective left.year left.month left.day right.year right.month right.day _ _
    (sym left.spelled ∙ name ∙ right.spelled) in
    let date = parts.0 in
    let one_day = left.date.counted in
    let two_day = right.date.counted in
    let roll = settings.roll in
    let epoch = settings.epoch in
    let day : start_of roll epoch a.file.cycle / length_of Daily ≡ start_of roll epoch b.file.cycle / length_of Daily = cc in
    same_cycle roll epoch a.file.cycle b.file.cycle day parts.1

-- the names of the images that are removed are not that of one that is kept
apart : (settings : Settings) (f : ℕ) (images : List CycleImage) (b : CycleImage) → AllByRecursion (IsLawfulImage settings) images
    → IsLawfulImage settings b → f ≤ b.file.cycle → AllByRecursion (λ (name : List ℕ). name ≡ file_of b → ⊥) (removed_files f images)
apart settings f [] b all one high = tt
apart settings f (a ∷ images) b all one high = by (nat_lt a.file.cycle f) refl (apart settings f images b all.1 one high)
  where
    rest : List CycleImage
    rest = filter (λ (i : CycleImage). nat_lt i.file.cycle f) images

    Apart : List (List ℕ) → Type 0
    Apart names = AllByRecursion (λ (name : List ℕ). name ≡ file_of b → ⊥) names

    by : (c : Bool) → nat_lt a.file.cycle f ≡ c → Apart (map file_of rest) → Apart (map file_of (cond (nat_lt a.file.cycle f) (a ∷ rest) rest))
    by true is more =
        let low = lt_is a.file.cycle f is in
        subst (λ (c : Bool). Apart (map file_of (cond c (a ∷ rest) rest))) (sym is)
        (λ alike. let cycle = one_cycle settings a b all.0 one alike in omega (arith, low, high, cycle), more)
    by false is more =
        subst (λ (c : Bool). Apart (map file_of (cond c (a ∷ rest) rest))) (sym is) more

-- of an image that is kept the folder has what it had
module _ (f : ℕ) (queue : SavedQueue) (before after : Files) (changes : List NamedFile) (lawful : IsLawfulQueue queue)
    (held : HoldQueue queue before) (are : AreChanges queue.config (contents_in queue) f changes)
    (saved : SavesAndRemoves (Some before) (Some after) changes (removed_files f queue.images.items)) where
  abbrev images : List CycleImage
  images = queue.images.items

  abbrev removed : List (List ℕ)
  removed = removed_files f queue.images.items

  abbrev names : List (List ℕ)
  names = map file_of queue.images.items

  endings : AllByRecursion (λ (name : List ℕ). IsTrue (ends_as_image name)) names
  endings = each-weaker (Contains names) (λ (name : List ℕ). IsTrue (ends_as_image name)) (λ name has. (held.listed.held name has).ending) names
      (each-from_all (Contains names) names (All-contains_itself names))

  -- a file that is not removed and is no configuration
  untouched : (name : List ℕ) → AllByRecursion (λ (other : List ℕ). other ≡ name → ⊥) removed → (CONFIG_FILE.now ≡ name → ⊥)
      → after name ≡ before name
  untouched name other no_config =
      saved name ∙ not_removed removed (after_writes changes before) name other ∙ only_config changes before name are no_config

  kept_same : (list : List CycleImage) → AllByRecursion (IsLawfulImage queue.config) list → AllByRecursion (HoldsImage queue.config before) list
      → AllByRecursion (λ (name : List ℕ). IsTrue (ends_as_image name)) (map file_of list)
      → AllByRecursion (λ (image : CycleImage). HoldsImage queue.config after image × IsImageFile after (file_of image)) (kept_images f list)
  kept_same [] good holds ends = tt
  kept_same (image ∷ list) good holds ends = by (nat_le f image.file.cycle) refl (kept_same list good.1 holds.1 ends.1)
    where
      Holds : CycleImage → Type 0
      Holds i = HoldsImage queue.config after i × IsImageFile after (file_of i)

      by : (b : Bool) → nat_le f image.file.cycle ≡ b → AllByRecursion Holds (kept_images f list) → AllByRecursion Holds (cond (nat_le f image.file.cycle) (image ∷ kept_images f list) (kept_images f list))
      by true is rest =
          let alike = untouched (file_of image)
          (apart queue.config f images image lawful.images good.0 (le_is f image.file.cycle is)) (not_config (file_of image) ends.0) in
          let there = alike ∙ holds.0 in
          subst (λ (b : Bool). AllByRecursion Holds (cond b (image ∷ kept_images f list) (kept_images f list))) (sym is) (
            (
              there,
              record { ending = ends.0; there = subst IsSome (sym there) refl },
            ),
            rest,
          )
      by false is rest =
          subst (λ (b : Bool). AllByRecursion Holds (cond b (image ∷ kept_images f list) (kept_images f list))) (sym is) rest

  kept_all : AllByRecursion (λ (image : CycleImage). HoldsImage queue.config after image × IsImageFile after (file_of image)) (kept_images f images)
  kept_all = kept_same images lawful.images held.images endings

  -- the configuration has the floor
  config_left : IsSomeAnd (after CONFIG_FILE.now) (IsTextOf queue.config queue.contents.positions f)
  config_left =
      subst (λ (o : Option (List ℕ)). IsSomeAnd o (IsTextOf queue.config queue.contents.positions f))
      (sym (saved CONFIG_FILE.now ∙ not_removed removed (after_writes changes before) CONFIG_FILE.now
      (each-weaker (λ (name : List ℕ). IsTrue (ends_as_image name)) (λ (name : List ℕ). name ≡ CONFIG_FILE.now → ⊥)
      (λ name ending alike. not_config name ending (sym alike)) removed
      (fewer_names (λ (name : List ℕ). IsTrue (ends_as_image name)) (λ (i : CycleImage). nat_lt i.file.cycle f) images endings))))
      (written changes are)
    where
      written : (cs : List NamedFile) → AreChanges queue.config (contents_in queue) f cs
          → IsSomeAnd (after_writes cs before CONFIG_FILE.now) (IsTextOf queue.config queue.contents.positions f)
      written cs (same floor none) =
          subst (λ (c : List NamedFile). IsSomeAnd (after_writes c before CONFIG_FILE.now) (IsTextOf queue.config queue.contents.positions f)) (sym none)
          (subst (λ (n : ℕ). IsSomeAnd (before CONFIG_FILE.now) (IsTextOf queue.config queue.contents.positions n)) (sym floor) held.config)
      written cs (raised text floor is_text one) =
          subst (λ (c : List NamedFile). IsSomeAnd (after_writes c before CONFIG_FILE.now) (IsTextOf queue.config queue.contents.positions f)) (sym one)
          (subst (λ (b : Bool). IsSomeAnd (if b then Some text else before CONFIG_FILE.now) (IsTextOf queue.config queue.contents.positions f))
          (sym ((bytes_eq-Decides CONFIG_FILE.now CONFIG_FILE.now).1 refl)) is_text)

  -- a file that is there was there
  was_there : (name : List ℕ) → (CONFIG_FILE.now ≡ name → ⊥) → IsSome (after name) → IsSome (before name)
  was_there name no_config some = by (before name) refl
    where
      by : (o : Option (List ℕ)) → before name ≡ o → IsSome o
      by (Some bytes) is = refl
      by None is =
          subst IsSome (saved name ∙ gone removed (after_writes changes before) name (only_config changes before name are no_config ∙ is)) some

  lists_left : ListsImages (map file_of (kept_images f images)) after
  lists_left = record {
    rising = fewer_rise (λ (i : CycleImage). nat_le f i.file.cycle) images held.listed.rising;
    held = λ file has. All-contains (IsImageFile after) (map file_of (kept_images f images)) file
        (each-all (IsImageFile after) (map file_of (kept_images f images)) (of_images (kept_images f images) kept_all)) has;
    whole = λ file is.
        let no_config = not_config file is.ending in
        let among = held.listed.whole file (record { ending = is.ending; there = was_there file no_config is.there }) in
        by file is.there (either_part f images file among);
  }
    where
      of_images : (list : List CycleImage) → AllByRecursion (λ (image : CycleImage). HoldsImage queue.config after image × IsImageFile after (file_of image)) list
          → AllByRecursion (IsImageFile after) (map file_of list)
      of_images [] all = tt
      of_images (image ∷ list) all = (all.0.1, of_images list all.1)

      by : (file : List ℕ) → IsSome (after file)
          → Contains (map file_of (kept_images f images)) file ⊎ Contains removed file → Contains (map file_of (kept_images f images)) file
      by file some (inl among) = among
      by file some (inr among) =
          absurd (false≢true (subst IsSome (saved file ∙ removed_gone removed (after_writes changes before) file among) some))

-- all but the last have ended, and the last is open, if more images follow
ends_more : (image : CycleImage) (list : List CycleImage) → image.ended ≡ true → 1 ≤ length list → HaveEnds list → HaveEnds (image ∷ list)
ends_more image [] ended some ends = absurd (omega (arith, some))
ends_more image (next ∷ list) ended some ends = (ended, ends)

-- so it is of the images that are left
some_image : (f : ℕ) (image : CycleImage) (list : List CycleImage) → f ≤ last_cycle (map list_in (image ∷ list)) → 1 ≤ length (kept_images f (image ∷ list))
some_image f image [] low =
    subst (λ (b : Bool). 1 ≤ length (cond b (image ∷ []) [])) (sym (is_le f image.file.cycle low)) (omega arith)
some_image f image (next ∷ list) low =
    let more = some_image f next list low in
    elim (nat_le f image.file.cycle) as (λ b. 1 ≤ length (cond b (image ∷ kept_images f (next ∷ list)) (kept_images f (next ∷ list)))) [
      | true ↦ omega arith
      | false ↦ more
    ]

ends_left : (f : ℕ) (list : List CycleImage) → f ≤ last_cycle (map list_in list) → HaveEnds list → HaveEnds (kept_images f list)
ends_left f [] low ends = tt
ends_left f (image ∷ []) low ends =
    subst (λ (b : Bool). HaveEnds (cond b (image ∷ []) [])) (sym (is_le f image.file.cycle low)) ends
ends_left f (image ∷ next ∷ list) low ends =
    let more = ends_left f (next ∷ list) low ends.1 in
    let some = some_image f next list low in
    elim (nat_le f image.file.cycle) as (λ b. HaveEnds (cond b (image ∷ kept_images f (next ∷ list)) (kept_images f (next ∷ list)))) [
      | true ↦ ends_more image (kept_images f (next ∷ list)) ends.0 some more
      | false ↦ more
    ]

-- the cycles of the images that are left
lists_of_left : (f : ℕ) (list : List CycleImage) → map list_in (kept_images f list) ≡ kept_lists f (map list_in list)
lists_of_left f [] = refl
lists_of_left f (image ∷ list) =
    elim (nat_le f image.file.cycle) as (λ b. map list_in (cond b (image ∷ kept_images f list) (kept_images f list))
    ≡ cond b (list_in image ∷ kept_lists f (map list_in list)) (kept_lists f (map list_in list))) [
      | true ↦ ap (λ (ls : List CycleList). list_in image ∷ ls) (lists_of_left f list)
      | false ↦ lists_of_left f list
    ]

-- what is held by what is left
pub contents_left : (queue left : SavedQueue) (f : ℕ) → IsLeftOf queue f left → contents_in left ≡ trimmed (contents_in queue) f
contents_left queue left f is =
    ap (λ (list : List CycleImage). contents_from (map list_in list) left.contents.positions left.contents.floor) is.images
    ∙ ap (λ (ls : List CycleList). contents_from ls left.contents.positions left.contents.floor) (lists_of_left f queue.images.items)
    ∙ ap (λ (ps : List ℕ). contents_from (kept_lists f (map list_in queue.images.items)) ps left.contents.floor) is.positions
    ∙ ap (λ (n : ℕ). contents_from (kept_lists f (map list_in queue.images.items)) queue.contents.positions n) is.floor_is

openable_left : (settings : Settings) (contents : Contents) (f : ℕ) → CanBeOpened settings contents → f ≤ last_cycle contents.lists
    → CanBeOpened settings (trimmed contents f)
openable_left settings contents f (inl none) low =
    let zero_floor : f ≤ 0 = subst (λ (ls : List CycleList). f ≤ last_cycle ls) none.0 low in
    inl (ap (kept_lists f) none.0, none.1, omega (arith, zero_floor))
openable_left settings contents f (inr lawful) low = inr (lawful_still settings contents f lawful low)

-- a floor is not above the last cycle
pub floor_below : (settings : Settings) (contents : Contents) (cycle : ℕ) → CanBeOpened settings contents
    → raised_floor contents cycle ≤ last_cycle contents.lists
floor_below settings contents cycle (inl none) =
    let floor = none.2 in
    subst (λ (ls : List CycleList). max contents.floor (min cycle (last_cycle ls)) ≤ last_cycle ls) (sym none.0) (omega (arith, floor))
floor_below settings contents cycle (inr lawful) = let low = lawful.floor in omega (arith, low)

-- a folder that was trimmed holds what is left, and it can be opened
pub folder_left : (queue left : SavedQueue) (f : ℕ) (before after : Files) (changes : List NamedFile) → HoldOpenable queue before
    → f ≤ last_cycle (contents_in queue).lists → AreChanges queue.config (contents_in queue) f changes
    → SavesAndRemoves (Some before) (Some after) changes (removed_files f queue.images.items) → IsLeftOf queue f left
    → HoldOpenable left after
folder_left queue left f before after changes opened low are saved is = record {
  lawful = record {
    settings = subst IsLawfulSettings (sym is.config) opened.lawful.settings;
    images = of_left (λ (s : Settings) (list : List CycleImage). AllByRecursion (IsLawfulImage s) list)
        (each-filter (IsLawfulImage queue.config) (λ (i : CycleImage). nat_le f i.file.cycle) queue.images.items opened.lawful.images);
    ends = subst HaveEnds (sym is.images) (ends_left f queue.images.items low opened.lawful.ends);
    paired = ap length is.positions ∙ opened.lawful.paired ∙ ap (λ (s : Settings). length s.names) (sym is.config);
  };
  held = record {
    config = subst (λ (s : Settings). IsSomeAnd (after CONFIG_FILE.now) (IsTextOf s left.contents.positions left.contents.floor)) (sym is.config)
        (subst (λ (ps : List ℕ). IsSomeAnd (after CONFIG_FILE.now) (IsTextOf queue.config ps left.contents.floor)) (sym is.positions)
        (subst (λ (n : ℕ). IsSomeAnd (after CONFIG_FILE.now) (IsTextOf queue.config queue.contents.positions n)) (sym is.floor_is)
        (config_left f queue before after changes opened.lawful opened.held are saved)));
    images = of_left (λ (s : Settings) (list : List CycleImage). AllByRecursion (HoldsImage s after) list)
        (each-weaker (λ (i : CycleImage). HoldsImage queue.config after i × IsImageFile after (file_of i)) (HoldsImage queue.config after)
        (λ i both. both.0) (kept_images f queue.images.items)
        (kept_all f queue before after changes opened.lawful opened.held are saved));
    listed = subst (λ (list : List CycleImage). ListsImages (map file_of list) after) (sym is.images)
        (lists_left f queue before after changes opened.lawful opened.held are saved);
  };
  openable = subst (λ (c : Contents). CanBeOpened left.config c) (sym (contents_left queue left f is))
      (subst (λ (s : Settings). CanBeOpened s (trimmed (contents_in queue) f)) (sym is.config)
      (openable_left queue.config (contents_in queue) f opened.openable low));
}
  where
    of_left : (P : Settings → List CycleImage → Type 0) → P queue.config (kept_images f queue.images.items) → P left.config left.images.items
    of_left P holds =
        subst (λ (s : Settings). P s left.images.items) (sym is.config)
        (subst (λ (list : List CycleImage). P queue.config list) (sym is.images) holds)

-- the same of a command that was done
pub trimmed_left : (settings : TrimSettings) (before after : Files) (text : List ℕ) (left : SavedQueue)
    → (done : IsTrimmed settings (Some before) (Some after) text) → settings.dry_run ≡ false → IsLeftOf done.queue done.floor left
    → HoldOpenable left after × (contents_in left ≡ trimmed (contents_in done.queue) done.floor)
trimmed_left settings before after text left done wet is = (
  folder_left done.queue left done.floor before after done.changes
      (record { lawful = done.found.lawful; held = done.found.held; openable = done.found.openable })
      (subst (λ (n : ℕ). n ≤ last_cycle (contents_in done.queue).lists) (sym done.found.floor_is.floor_is)
      (floor_below done.queue.config (contents_in done.queue) _ done.found.openable))
      done.changes_are
      (subst (λ (dry : Bool). Leaves dry done.changes (removed_files done.floor done.queue.images.items) (Some before) (Some after)) wet done.left)
      is,
  contents_left done.queue left done.floor is,
)
