-- A folder in which an image was repaired can be opened.
use Rattle.std.proofs.Common.{◌≡◌, ◌≢◌, ◌∙◌, ℕ, suc, ◌-◌, ◌<◌, ◌≤◌, Bool, true, false, List, [], ◌∷◌, ◌++◌, All, ap, arith, drop, get_or, inl, inr, length, map, refl, subst, sym}
use Rattle.std.proofs.Math.Seq.{drop-append_seam}
use Rattle.std.proofs.lemmas.Bool.{false≢true}
use Rattle.std.proofs.lemmas.List.{append_cancel_right, length-append, length-map}
use Rattle.std.proofs.lemmas.List.Elements.{All-contains, All-contains_itself}
use Rattle.std.proofs.lemmas.Slice.Eq.{bytes_eq-Decides}
use Rattle.std.specs.Cmp.Lexicographic.{pointwise}
use Rattle.std.specs.List.{AllByRecursion}
use Rattle.std.specs.Prelude.{nat_eq, Contains, IsSome, IsSomeAnd, IsTrue, Option, None, Some, codes, if◌then◌else◌}
use Rattle.std.specs.Str.{bytes_eq}
use Rattle.cq_chain.proofs.HeldLemmas.{next_are_held}
use Rattle.cq_config_text.proofs.ConfigLemmas.{one_config}
use Rattle.cq_config_text.specs.ConfigText.{IsTextOf}
use Rattle.cq_cycle.specs.Index.{index_of}
use Rattle.cq_cycle.specs.Name.{IsName}
use Rattle.cq_cycle.specs.declared.roll.Roll.{Roll}
use Rattle.cq_files.specs.Openable.{HoldOpenable}
use Rattle.cq_files.specs.Queue.{CanBeOpened, HaveEnds, HoldsImage, IsImageFile, IsImageName, IsLawfulImage, ListsImages, contents_from, contents_in, ends_as_image, file_of, list_in}
use Rattle.cq_files.specs.declared.opening.CycleImage.{CycleImage}
use Rattle.cq_files.specs.declared.opening.SavedQueue.{SavedQueue}
use Rattle.cq_files.proofs.ImageNames.{config_ends, image_ends}
use Rattle.cq_folder.specs.Folder.{Files, NamedFile, after_writes}
use Rattle.cq_folder.specs.declared.names.TheConstants.{CONFIG_FILE, IMAGE_ENDING}
use Rattle.cq_image.specs.Image.{AreNext, image_of}
use Rattle.cq_layout.proofs.Each.{each-all, each-from_all, each-weaker}
use Rattle.cq_model.proofs.TestLemmas.{false_if}
use Rattle.cq_model.specs.Settings.{IsLawfulSettings, Settings, texts}
use Rattle.cq_model.specs.States.{AreLawfulContents, IsHeld, Rises, end_of, last_cycle}
use Rattle.cq_model.specs.declared.contents.Contents.{Contents}
use Rattle.cq_model.specs.declared.contents.CycleList.{CycleList}
use Rattle.cq_repair.specs.Found.{HasLater, IsFound}
use Rattle.cq_repair.specs.Kept.{AreChanges, bad_name, both, end_of_kept, image, image_after, lowered, old_file, positions_after, salvaged}
use Rattle.cq_repair.specs.Opens.{HoldOpenableBut, IsLeftOf, mended}
use Rattle.cq_repair.specs.Repairs.{IsRepaired}
use Rattle.cq_repair.specs.declared.finding.Found.{Found}

-- a cycle has one name, and a name has one cycle
abbrev pub OneName : Type 0
OneName = (roll : Roll) (epoch cycle : ℕ) (name other : List ℕ) → IsName roll epoch cycle name → IsName roll epoch cycle other → name ≡ other

abbrev pub OneCycle : Type 0
OneCycle = (roll : Roll) (epoch cycle other : ℕ) (name : List ℕ) → IsName roll epoch cycle name → IsName roll epoch other name → cycle ≡ other

one_file : OneName → (settings : Settings) (cycle : ℕ) (file other : List ℕ) → IsImageName settings cycle file → IsImageName settings cycle other
    → file ≡ other
one_file paired settings cycle file other one two =
    one.spelled
    ∙ ap (λ (name : List ℕ). name ++ IMAGE_ENDING.now) (paired settings.roll settings.epoch cycle one.name two.name one.named two.named)
    ∙ sym two.spelled

one_cycle : OneCycle → (settings : Settings) (cycle other : ℕ) (file : List ℕ) → IsImageName settings cycle file → IsImageName settings other file
    → cycle ≡ other
one_cycle paired settings cycle other file one two =
    let same = append_cancel_right one.name two.name IMAGE_ENDING.now (sym one.spelled ∙ two.spelled) in
    paired settings.roll settings.epoch cycle other two.name (subst (IsName settings.roll settings.epoch cycle) same one.named) two.named

bad_ends : (file : List ℕ) → ends_as_image (bad_name file) ≡ false
unfolding ends_as_image
bad_ends file =
    let long = length-append file (codes ".bad") in
    let at : length (bad_name file) - 4 ≡ length file = omega (arith, long) in
    ap (λ (n : ℕ). pointwise nat_eq IMAGE_ENDING.now (drop n (bad_name file))) at
    ∙ ap (pointwise nat_eq IMAGE_ENDING.now) (drop-append_seam file (codes ".bad"))

other_than : (name file : List ℕ) → ends_as_image name ≡ false → IsTrue (ends_as_image file) → name ≡ file → ⊥
other_than name file ends is same = false≢true (sym ends ∙ ap ends_as_image same ∙ is)

-- the new name of the old file is not that of the configuration
bad_is_other : (file : List ℕ) → bad_name file ≡ CONFIG_FILE.now → ⊥
bad_is_other file same =
    let long = length-append file (codes ".bad") in
    let size : length (bad_name file) ≡ 9 = ap length same in
    let at : length file ≡ 5 = omega (arith, long, size) in
    let end : codes ".bad" ≡ drop 5 CONFIG_FILE.now =
    sym (drop-append_seam file (codes ".bad")) ∙ ap (λ (n : ℕ). drop n (bad_name file)) at ∙ ap (drop 5) same in
    let letter : 98 ≡ 99 = ap (λ (xs : List ℕ). get_or xs 1 0) end in
    omega (arith, letter)

-- names that differ, and the same
differ : (a b : List ℕ) → (a ≡ b → ⊥) → bytes_eq a b ≡ false
differ a b apart = false_if (bytes_eq a b) (λ is. apart ((bytes_eq-Decides a b).0 is))

alike : (a : List ℕ) → bytes_eq a a ≡ true
alike a = (bytes_eq-Decides a a).1 refl

-- tests of the same thing
same_test : (a b : Bool) → (a ≡ true → b ≡ true) → (b ≡ true → a ≡ true) → a ≡ b
same_test true b there back = sym (there refl)
same_test false true there back = back refl
same_test false false there back = refl

both_hold : {X : Type 0} (P Q : X → Type 0) (xs : List X) → AllByRecursion P xs → AllByRecursion Q xs → AllByRecursion (λ (x : X). P x × Q x) xs
both_hold P Q [] all too = tt
both_hold P Q (x ∷ xs) all too = ((all.0, too.0), both_hold P Q xs all.1 too.1)

-- the cycles of images
abbrev cycles_in : List CycleImage → List CycleList
cycles_in images = map list_in images

last_above : (c : ℕ) (i : CycleImage) (images : List CycleImage) → AllByRecursion (λ (l : CycleList). c < l.cycle) (cycles_in (i ∷ images))
    → c < last_cycle (cycles_in (i ∷ images))
last_above c i [] above = above.0
last_above c i (next ∷ images) above = last_above c next images above.1

-- a cycle is at most the last one, and has ended if it is another
abbrev EndsBy : ℕ → CycleImage → Type 0
EndsBy last i = (i.file.cycle ≤ last) × (i.ended ≡ true → i.file.cycle < last) × (i.file.cycle < last → i.ended ≡ true)

ends_by : (images : List CycleImage) → Rises (cycles_in images) → HaveEnds images → AllByRecursion (EndsBy (last_cycle (cycles_in images))) images
ends_by [] rise ends = tt
ends_by (i ∷ []) rise ends = ((omega arith, (λ ended. absurd (false≢true (sym ends ∙ ended))), (λ low. absurd (omega (arith, low)))), tt)
ends_by (i ∷ next ∷ images) rise ends =
    let low = last_above i.file.cycle next images rise.0 in
    ((omega (arith, low), (λ ended. low), (λ other. ends.0)), ends_by (next ∷ images) rise.1 ends.1)

-- the last of images, of each of which something holds; and where a queue ends that has it, as it is or changed
record LastOf (P : CycleImage → Type 0) (change : CycleImage → CycleImage) (images : List CycleImage) : Type 0 where
  last : CycleImage
  holds : P last
  cycle : last_cycle (cycles_in images) ≡ last.file.cycle
  end : end_of (cycles_in images) ≡ index_of last.file.cycle (length last.messages)
  changed : end_of (cycles_in (map change images)) ≡ index_of (change last).file.cycle (length (change last).messages)

last_of : (P : CycleImage → Type 0) (change : CycleImage → CycleImage) (i : CycleImage) (images : List CycleImage) → AllByRecursion P (i ∷ images)
    → LastOf P change (i ∷ images)
last_of P change i [] all = record { last = i; holds = all.0; cycle = refl; end = refl; changed = refl }
last_of P change i (next ∷ images) all =
    let more = last_of P change next images all.1 in
    record { last = more.last; holds = more.holds; cycle = more.cycle; end = more.end; changed = more.changed }

-- what a repair leaves as it was of images
module _ (file : List ℕ) (kept : List (List ℕ)) where
  abbrev mend : CycleImage → CycleImage
  mend = mended file kept

  same_names : (images : List CycleImage) → map file_of (map mend images) ≡ map file_of images
  same_names [] = refl
  same_names (i ∷ images) = ap (λ (names : List (List ℕ)). file_of i ∷ names) (same_names images)

  same_count : (images : List CycleImage) → length (cycles_in (map mend images)) ≡ length (cycles_in images)
  same_count [] = refl
  same_count (i ∷ images) = ap suc (same_count images)

  all_later : (c : ℕ) (images : List CycleImage) → AllByRecursion (λ (l : CycleList). c < l.cycle) (cycles_in images)
      → AllByRecursion (λ (l : CycleList). c < l.cycle) (cycles_in (map mend images))
  all_later c [] all = tt
  all_later c (i ∷ images) all = (all.0, all_later c images all.1)

  still_rise : (images : List CycleImage) → Rises (cycles_in images) → Rises (cycles_in (map mend images))
  still_rise [] rise = tt
  still_rise (i ∷ images) rise = (all_later i.file.cycle images rise.0, still_rise images rise.1)

  same_last : (images : List CycleImage) → last_cycle (cycles_in (map mend images)) ≡ last_cycle (cycles_in images)
  same_last [] = refl
  same_last (i ∷ []) = refl
  same_last (i ∷ next ∷ images) = same_last (next ∷ images)

  same_ends : (images : List CycleImage) → HaveEnds images → HaveEnds (map mend images)
  same_ends [] ends = tt
  same_ends (i ∷ []) ends = ends
  same_ends (i ∷ next ∷ images) ends = (ends.0, same_ends (next ∷ images) ends.1)

  each_mended : (P Q : CycleImage → Type 0) → ((i : CycleImage) → P i → Q (mend i)) → (images : List CycleImage) → AllByRecursion P images
      → AllByRecursion Q (map mend images)
  each_mended P Q by [] all = tt
  each_mended P Q by (i ∷ images) all = (by i all.0, each_mended P Q by images all.1)

-- what holds of the names of images
of_names : (P : List ℕ → Type 0) (images : List CycleImage) → AllByRecursion P (map file_of images) → AllByRecursion (λ (i : CycleImage). P (file_of i)) images
of_names P [] all = tt
of_names P (i ∷ images) all = (all.0, of_names P images all.1)

to_names : (P : List ℕ → Type 0) (images : List CycleImage) → AllByRecursion (λ (i : CycleImage). P (file_of i)) images → AllByRecursion P (map file_of images)
to_names P [] all = tt
to_names P (i ∷ images) all = (all.0, to_names P images all.1)

-- cycles that a queue can hold
cycles_held : (settings : Settings) (images : List CycleImage) → IsLawfulSettings settings → AllByRecursion (IsLawfulImage settings) images
    → AllByRecursion (IsHeld settings) (cycles_in images)
cycles_held settings [] lawful all = tt
cycles_held settings (i ∷ images) lawful all =
    let (each, room, few) = next_are_held settings.layout i.messages lawful.layout all.0.fits in
    (record { exists = all.0.named.exists; room = room; entries = few; lawful = each }, cycles_held settings images lawful all.1)

-- a position never rises, and where the cycle has not ended it is at most the end of what is kept
lowered_low : (ended : Bool) (end position : ℕ) → lowered ended end position ≤ position
lowered_low ended end position = grind arith

lowered_open : (end position : ℕ) → lowered false end position ≤ end
lowered_open end position = grind arith

all_lowered : (ended : Bool) (end most : ℕ) (positions : List ℕ) → ((position : ℕ) → position ≤ most → lowered ended end position ≤ most)
    → AllByRecursion (λ (p : ℕ). p ≤ most) positions → AllByRecursion (λ (p : ℕ). p ≤ most) (map (lowered ended end) positions)
all_lowered ended end most [] by all = tt
all_lowered ended end most (position ∷ positions) by all = (by position all.0, all_lowered ended end most positions by all.1)

all_at_end : (end : ℕ) (positions : List ℕ) → AllByRecursion (λ (p : ℕ). p ≤ end) (map (lowered false end) positions)
all_at_end end [] = tt
all_at_end end (position ∷ positions) = (lowered_open end position, all_at_end end positions)

-- a configuration's file says one thing
said_once : (o : Option (List ℕ)) (one other : Settings) (places positions : List ℕ) (floor start : ℕ) → IsSomeAnd o (IsTextOf one places floor)
    → IsSomeAnd o (IsTextOf other positions start) → (one ≡ other) × (places ≡ positions) × (floor ≡ start)
said_once None one other places positions floor start is too = absurd is
said_once (Some text) one other places positions floor start is too = one_config one other places positions floor start text is too

-- the files after the old file and the changes were written
module _ (file : List ℕ) (ended : Bool) (found : Found) (before : Files) where
  abbrev written : List NamedFile → List ℕ → Option (List ℕ)
  written changes name = after_writes (old_file file found ∷ changes) before name

  new : List ℕ
  new = image_after ended found

  abbrev with_both : Bool → Bool → List ℕ → Option (List ℕ)
  with_both is_image is_old name = if is_image then Some (image_after ended found) else (if is_old then Some found.bytes.items else before name)

  -- the image is the new one
  at_image : (changes : List NamedFile) → AreChanges file ended found changes → IsTrue (ends_as_image file) → written changes file ≡ Some (image_after ended found)
  at_image changes (image same one) ending =
      ap (λ (cs : List NamedFile). written cs file) one ∙ ap (λ (b : Bool). with_both b (bytes_eq (bad_name file) file) file) (alike file)
  at_image changes (both text moved spelled two) ending =
      ap (λ (cs : List NamedFile). written cs file) two
      ∙ ap (λ (b : Bool). if b then Some text else with_both (bytes_eq file file) (bytes_eq (bad_name file) file) file)
      (differ CONFIG_FILE.now file (other_than CONFIG_FILE.now file config_ends ending))
      ∙ ap (λ (b : Bool). with_both b (bytes_eq (bad_name file) file) file) (alike file)

  -- other images are as they were
  at_other : (changes : List NamedFile) (name : List ℕ) → AreChanges file ended found changes → IsTrue (ends_as_image name) → (file ≡ name → ⊥)
      → written changes name ≡ before name
  at_other changes name (image same one) ending apart =
      ap (λ (cs : List NamedFile). written cs name) one
      ∙ ap (λ (b : Bool). with_both b (bytes_eq (bad_name file) name) name) (differ file name apart)
      ∙ ap (λ (b : Bool). with_both false b name) (differ (bad_name file) name (other_than (bad_name file) name (bad_ends file) ending))
  at_other changes name (both text moved spelled two) ending apart =
      ap (λ (cs : List NamedFile). written cs name) two
      ∙ ap (λ (b : Bool). if b then Some text else with_both (bytes_eq file name) (bytes_eq (bad_name file) name) name)
      (differ CONFIG_FILE.now name (other_than CONFIG_FILE.now name config_ends ending))
      ∙ ap (λ (b : Bool). with_both b (bytes_eq (bad_name file) name) name) (differ file name apart)
      ∙ ap (λ (b : Bool). with_both false b name) (differ (bad_name file) name (other_than (bad_name file) name (bad_ends file) ending))

  -- the configuration has the positions of the repair
  at_config : (changes : List NamedFile) → AreChanges file ended found changes → IsTrue (ends_as_image file)
      → IsSomeAnd (before CONFIG_FILE.now) (IsTextOf found.saved.config found.saved.positions.items found.saved.floor)
      → IsSomeAnd (written changes CONFIG_FILE.now) (IsTextOf found.saved.config (positions_after ended found) found.saved.floor)
  at_config changes (image same one) ending was =
      subst (λ (o : Option (List ℕ)). IsSomeAnd o (IsTextOf found.saved.config (positions_after ended found) found.saved.floor))
      (sym (ap (λ (cs : List NamedFile). written cs CONFIG_FILE.now) one
      ∙ ap (λ (b : Bool). with_both b (bytes_eq (bad_name file) CONFIG_FILE.now) CONFIG_FILE.now)
      (differ file CONFIG_FILE.now (λ is. other_than CONFIG_FILE.now file config_ends ending (sym is)))
      ∙ ap (λ (b : Bool). with_both false b CONFIG_FILE.now) (differ (bad_name file) CONFIG_FILE.now (bad_is_other file))))
      (subst (λ (ps : List ℕ). IsSomeAnd (before CONFIG_FILE.now) (IsTextOf found.saved.config ps found.saved.floor)) (sym same) was)
  at_config changes (both text moved spelled two) ending was =
      subst (λ (o : Option (List ℕ)). IsSomeAnd o (IsTextOf found.saved.config (positions_after ended found) found.saved.floor))
      (sym (ap (λ (cs : List NamedFile). written cs CONFIG_FILE.now) two
      ∙ ap (λ (b : Bool). if b then Some text else with_both (bytes_eq file CONFIG_FILE.now) (bytes_eq (bad_name file) CONFIG_FILE.now) CONFIG_FILE.now)
      (alike CONFIG_FILE.now)))
      spelled

-- the last of some images
last_in : (P : CycleImage → Type 0) (change : CycleImage → CycleImage) (images : List CycleImage) → 1 ≤ length (cycles_in images) → AllByRecursion P images
    → LastOf P change images
last_in P change [] some all = absurd (omega (arith, some))
last_in P change (i ∷ images) some all = last_of P change i images all

no_cycles : (images : List CycleImage) (name : List ℕ) → cycles_in images ≡ [] → Contains (map file_of images) name → ⊥
no_cycles [] name same has = let low = has.1 in omega (arith, low)
no_cycles (i ∷ images) name same has = cc same

-- a folder that was repaired, of a queue that could be opened but for the image
module _ (one_name : OneName) (paired : OneCycle) (file text : List ℕ) (before after : Files) (queue : SavedQueue)
    (done : IsRepaired false file (Some before) (Some after) text) (but : HoldOpenableBut file queue before) where
  abbrev found : Found
  found = done.found

  abbrev is : IsFound file (Some before) found
  is = done.mendable.is_found

  abbrev settings : Settings
  settings = queue.config

  abbrev kept : List (List ℕ)
  kept = (salvaged found).messages

  abbrev images : List CycleImage
  images = queue.images.items

  abbrev names : List (List ℕ)
  names = map file_of images

  abbrev last : ℕ
  last = last_cycle (cycles_in images)

  abbrev mends : CycleImage → CycleImage
  mends = mended file kept

  said : (queue.config ≡ found.saved.config) × (queue.contents.positions ≡ found.saved.positions.items) × (queue.contents.floor ≡ found.saved.floor)
  said = said_once (before CONFIG_FILE.now) queue.config found.saved.config queue.contents.positions found.saved.positions.items
      queue.contents.floor found.saved.floor but.config is.config

  named : IsImageName settings found.cycle file
  named = subst (λ (s : Settings). IsImageName s found.cycle file) (sym said.0) is.placed.named

  fits : AreNext settings.layout [] kept
  fits = subst (λ (s : Settings). AreNext s.layout [] kept) (sym said.0) done.fit

  among : Contains names file
  among = but.listed.whole file (record { ending = is.placed.ending; there = is.names.held file is.placed.listed })

  lawful : AreLawfulContents settings (contents_in queue)
  lawful = by but.openable
    where
      by : CanBeOpened settings (contents_in queue) → AreLawfulContents settings (contents_in queue)
      by (inl none) = absurd (no_cycles images file none.0 among)
      by (inr contents) = contents

  there : AllByRecursion (λ (i : CycleImage). IsImageFile before (file_of i)) images
  there = of_names (IsImageFile before) images
      (each-weaker (Contains names) (IsImageFile before) (λ name has. but.listed.held name has) names
      (each-from_all (Contains names) names (All-contains_itself names)))

  ends : AllByRecursion (EndsBy last) images
  ends = ends_by images lawful.rising but.lawful.ends

  -- no file of an image names a cycle above the last
  abbrev NamesLow : List ℕ → Type 0
  NamesLow name = (cycle : ℕ) → IsImageName settings cycle name → cycle ≤ last

  low_names : (name : List ℕ) → Contains names name → NamesLow name
  low_names name has = All-contains NamesLow names name (each-all NamesLow names (to_names NamesLow images
      (each-weaker (λ (i : CycleImage). IsLawfulImage settings i × EndsBy last i) (λ (i : CycleImage). NamesLow (file_of i)) by images
      (both_hold (IsLawfulImage settings) (EndsBy last) images but.lawful.images ends)))) has
    where
      by : (i : CycleImage) → IsLawfulImage settings i × EndsBy last i → NamesLow (file_of i)
      by i all cycle name_is =
          let same = one_cycle paired settings cycle i.file.cycle (file_of i) name_is all.0.named in
          let low = all.1.0 in
          omega (arith, same, low)

  -- a later cycle has an image if this one is not the last
  ended_low : done.ended ≡ true → found.cycle < last
  ended_low ended = by (done.ended_is.0 ended)
    where
      by : HasLater found.saved.config (texts found.names.items) found.cycle → found.cycle < last
      by (other, listed, (later, name_is, high)) =
          let here : IsImageName settings later other = subst (λ (s : Settings). IsImageName s later other) (sym said.0) name_is in
          let place = but.listed.whole other (record { ending = image_ends settings later other here; there = is.names.held other listed }) in
          let low = low_names other place later here in
          omega (arith, high, low)

  abbrev Last : Type 0
  Last = LastOf (λ (i : CycleImage). IsLawfulImage settings i × IsImageFile before (file_of i)) mends images

  last_one : Last
  last_one = last_in (λ (i : CycleImage). IsLawfulImage settings i × IsImageFile before (file_of i)) mends images lawful.some
      (both_hold (IsLawfulImage settings) (λ (i : CycleImage). IsImageFile before (file_of i)) images but.lawful.images there)

  low_ended : found.cycle < last → done.ended ≡ true
  low_ended low = done.ended_is.1 (by last_one)
    where
      by : Last → HasLater found.saved.config (texts found.names.items) found.cycle
      by l = (
        file_of l.last,
        is.names.whole (file_of l.last) l.holds.1.there,
        (
          l.last.file.cycle,
          subst (λ (s : Settings). IsImageName s l.last.file.cycle (file_of l.last)) said.0 l.holds.0.named,
          subst (λ (n : ℕ). found.cycle < n) l.cycle low,
        ),
      )

  cycle_at : (i : CycleImage) → IsLawfulImage settings i → file ≡ file_of i → i.file.cycle ≡ found.cycle
  cycle_at i good same = one_cycle paired settings i.file.cycle found.cycle (file_of i) good.named (subst (IsImageName settings found.cycle) same named)

  -- what the files are
  image_there : after file ≡ Some (image_after done.ended found)
  image_there = done.left file ∙ at_image file done.ended found before done.changes done.changes_are is.placed.ending

  other_there : (name : List ℕ) → IsTrue (ends_as_image name) → bytes_eq file name ≡ false → after name ≡ before name
  other_there name ending other =
      done.left name
      ∙ at_other file done.ended found before done.changes name done.changes_are ending
      (λ same. false≢true (sym other ∙ (bytes_eq-Decides file name).1 same))

  abbrev All-known : CycleImage → Type 0
  All-known i = (IsLawfulImage settings i × EndsBy last i) × ((file_of i ≢ file → HoldsImage settings before i) × IsImageFile before (file_of i))

  held_after : (i : CycleImage) → All-known i → HoldsImage settings after (mends i)
  held_after i all = by (bytes_eq file (file_of i)) refl
    where
      Held : Bool → Type 0
      Held b = after (file_of i) ≡ Some (image_of settings.layout i.file.cycle (if b then kept else i.messages) i.ended)

      by : (b : Bool) → bytes_eq file (file_of i) ≡ b → Held (bytes_eq file (file_of i))
      by true it =
          let same = (bytes_eq-Decides file (file_of i)).0 it in
          let cycle = cycle_at i all.0.0 same in
          let ended : i.ended ≡ done.ended = same_test i.ended done.ended
          (λ e. low_ended (subst (λ (n : ℕ). n < last) cycle (all.0.1.1 e)))
          (λ e. all.0.1.2 (subst (λ (n : ℕ). n < last) (sym cycle) (ended_low e))) in
          subst Held (sym it)
          (ap after (sym same) ∙ image_there
          ∙ ap (λ (s : Settings). Some (image_of s.layout found.cycle kept done.ended)) (sym said.0)
          ∙ ap (λ (c : ℕ). Some (image_of settings.layout c kept done.ended)) (sym cycle)
          ∙ ap (λ (e : Bool). Some (image_of settings.layout i.file.cycle kept e)) (sym ended))
      by false other =
          subst Held (sym other)
          (other_there (file_of i) all.1.1.ending other
          ∙ all.1.0 (λ same. false≢true (sym other ∙ (bytes_eq-Decides file (file_of i)).1 (sym same))))

  known : AllByRecursion All-known images
  known = both_hold (λ (i : CycleImage). IsLawfulImage settings i × EndsBy last i)
      (λ (i : CycleImage). (file_of i ≢ file → HoldsImage settings before i) × IsImageFile before (file_of i)) images
      (both_hold (IsLawfulImage settings) (EndsBy last) images but.lawful.images ends)
      (both_hold (λ (i : CycleImage). file_of i ≢ file → HoldsImage settings before i) (λ (i : CycleImage). IsImageFile before (file_of i)) images
      but.others there)

  held_images : AllByRecursion (HoldsImage settings after) (map mends images)
  held_images = each_mended file kept All-known (HoldsImage settings after) held_after images known

  lawful_images : AllByRecursion (IsLawfulImage settings) (map mends images)
  lawful_images = each_mended file kept (IsLawfulImage settings) (IsLawfulImage settings)
      (λ i good. record { named = good.named; fits = by i good (bytes_eq file (file_of i)) }) images but.lawful.images
    where
      by : (i : CycleImage) → IsLawfulImage settings i → (b : Bool) → AreNext settings.layout [] (if b then kept else i.messages)
      by i good true = fits
      by i good false = good.fits

  lists_after : ListsImages names after
  lists_after = record {
    rising = but.listed.rising;
    held = λ name has. let was = but.listed.held name has in
        record { ending = was.ending; there = some name was.ending was.there (bytes_eq file name) refl };
    whole = λ name now. by name now (bytes_eq file name) refl;
  }
    where
      some : (name : List ℕ) → IsTrue (ends_as_image name) → IsSome (before name) → (b : Bool) → bytes_eq file name ≡ b → IsSome (after name)
      some name ending was true it =
          subst IsSome (sym (ap after (sym ((bytes_eq-Decides file name).0 it)) ∙ image_there)) refl
      some name ending was false other = subst IsSome (sym (other_there name ending other)) was

      by : (name : List ℕ) → IsImageFile after name → (b : Bool) → bytes_eq file name ≡ b → Contains names name
      by name now true it = subst (Contains names) ((bytes_eq-Decides file name).0 it) among
      by name now false other =
          but.listed.whole name (record { ending = now.ending; there = subst IsSome (other_there name now.ending other) now.there })

  -- where the queue ends that is left
  abbrev end_left : ℕ
  end_left = end_of (cycles_in (map mends images))

  end_if_open : done.ended ≡ false → end_left ≡ end_of_kept found
  end_if_open is_open = by last_one
    where
      at : (i : CycleImage) (b : Bool) → b ≡ true → index_of i.file.cycle (length (if b then kept else i.messages)) ≡ index_of i.file.cycle (length kept)
      at i true it = refl
      at i false it = absurd (false≢true it)

      by : Last → end_left ≡ end_of_kept found
      by l =
          let most = low_names file among found.cycle named in
          let not_below : found.cycle < last → ⊥ = λ low. false≢true (sym is_open ∙ low_ended low) in
          let is_last : found.cycle ≡ last = omega (arith, most, not_below) in
          let cycle : found.cycle ≡ l.last.file.cycle = is_last ∙ l.cycle in
          let same : file ≡ file_of l.last = one_file one_name settings l.last.file.cycle file (file_of l.last)
          (subst (λ (c : ℕ). IsImageName settings c file) cycle named) l.holds.0.named in
          l.changed ∙ at l.last (bytes_eq file (file_of l.last)) ((bytes_eq-Decides file (file_of l.last)).1 same)
          ∙ ap (λ (c : ℕ). index_of c (length kept)) (sym cycle)

  end_if_ended : done.ended ≡ true → end_left ≡ end_of (cycles_in images)
  end_if_ended ended = by last_one
    where
      at : (i : CycleImage) (b : Bool) → b ≡ false → index_of i.file.cycle (length (if b then kept else i.messages)) ≡ index_of i.file.cycle (length i.messages)
      at i true other = absurd (false≢true (sym other))
      at i false other = refl

      by : Last → end_left ≡ end_of (cycles_in images)
      by l =
          let low = ended_low ended in
          let other : bytes_eq file (file_of l.last) ≡ false = differ file (file_of l.last)
          (λ same. let cycle = cycle_at l.last l.holds.0 same in let top = l.cycle in omega (arith, low, cycle, top)) in
          l.changed ∙ at l.last (bytes_eq file (file_of l.last)) other ∙ sym l.end

  positions_low : All (λ (p : ℕ). p ≤ end_left) (positions_after done.ended found)
  positions_low = each-all (λ (p : ℕ). p ≤ end_left) (positions_after done.ended found) (by done.ended refl)
    where
      by : (e : Bool) → done.ended ≡ e → AllByRecursion (λ (p : ℕ). p ≤ end_left) (map (lowered done.ended (end_of_kept found)) found.saved.positions.items)
      by false is_open =
          subst (λ (end : ℕ). AllByRecursion (λ (p : ℕ). p ≤ end) (map (lowered done.ended (end_of_kept found)) found.saved.positions.items))
          (sym (end_if_open is_open))
          (subst (λ (e : Bool). AllByRecursion (λ (p : ℕ). p ≤ end_of_kept found) (map (lowered e (end_of_kept found)) found.saved.positions.items))
          (sym is_open) (all_at_end (end_of_kept found) found.saved.positions.items))
      by true ended =
          subst (λ (end : ℕ). AllByRecursion (λ (p : ℕ). p ≤ end) (map (lowered done.ended (end_of_kept found)) found.saved.positions.items))
          (sym (end_if_ended ended))
          (all_lowered done.ended (end_of_kept found) (end_of (cycles_in images)) found.saved.positions.items
          (λ p low. let less = lowered_low done.ended (end_of_kept found) p in omega (arith, low, less))
          (each-from_all (λ (p : ℕ). p ≤ end_of (cycles_in images)) found.saved.positions.items
          (subst (All (λ (p : ℕ). p ≤ end_of (cycles_in images))) said.1 lawful.positions)))

  -- as many positions as names
  declared : length (positions_after done.ended found) ≡ length settings.names
  declared =
      length-map found.saved.positions.items (lowered done.ended (end_of_kept found))
      ∙ is.paired ∙ ap (λ (s : Settings). length s.names) (sym said.0)

  abbrev left_contents : Contents
  left_contents = contents_from (cycles_in (map mends images)) (positions_after done.ended found) queue.contents.floor

  lawful_left : AreLawfulContents settings left_contents
  lawful_left = record {
    some = subst (λ (n : ℕ). 1 ≤ n) (sym (same_count file kept images)) lawful.some;
    places = subst (λ (n : ℕ). n ≤ settings.cycles) (sym (same_count file kept images)) lawful.places;
    rising = still_rise file kept images lawful.rising;
    held = cycles_held settings (map mends images) but.lawful.settings lawful_images;
    positions = positions_low;
    declared = declared;
    floor = subst (λ (n : ℕ). queue.contents.floor ≤ n) (sym (same_last file kept images)) lawful.floor;
  }

  config_after : IsSomeAnd (after CONFIG_FILE.now) (IsTextOf settings (positions_after done.ended found) queue.contents.floor)
  config_after =
      subst (λ (o : Option (List ℕ)). IsSomeAnd o (IsTextOf settings (positions_after done.ended found) queue.contents.floor)) (sym (done.left CONFIG_FILE.now))
      (subst (λ (s : Settings). IsSomeAnd (written file done.ended found before done.changes CONFIG_FILE.now) (IsTextOf s (positions_after done.ended found) queue.contents.floor)) (sym said.0)
      (subst (λ (n : ℕ). IsSomeAnd (written file done.ended found before done.changes CONFIG_FILE.now) (IsTextOf found.saved.config (positions_after done.ended found) n)) (sym said.2)
      (at_config file done.ended found before done.changes done.changes_are is.placed.ending is.config)))

  pub can_be_opened : (left : SavedQueue) → IsLeftOf file done.ended found queue left → HoldOpenable left after
  can_be_opened left l = record {
    lawful = record {
      settings = subst IsLawfulSettings (sym l.config) but.lawful.settings;
      images = of_left (λ (s : Settings) (list : List CycleImage). AllByRecursion (IsLawfulImage s) list) lawful_images;
      ends = subst HaveEnds (sym l.images) (same_ends file kept images but.lawful.ends);
      paired = ap length l.positions ∙ declared ∙ ap (λ (s : Settings). length s.names) (sym l.config);
    };
    held = record {
      config = subst (λ (s : Settings). IsSomeAnd (after CONFIG_FILE.now) (IsTextOf s left.contents.positions left.contents.floor)) (sym l.config)
          (subst (λ (ps : List ℕ). IsSomeAnd (after CONFIG_FILE.now) (IsTextOf settings ps left.contents.floor)) (sym l.positions)
          (subst (λ (n : ℕ). IsSomeAnd (after CONFIG_FILE.now) (IsTextOf settings (positions_after done.ended found) n)) (sym l.floor_is) config_after));
      images = of_left (λ (s : Settings) (list : List CycleImage). AllByRecursion (HoldsImage s after) list) held_images;
      listed = subst (λ (list : List CycleImage). ListsImages (map file_of list) after) (sym l.images)
          (subst (λ (all : List (List ℕ)). ListsImages all after) (sym (same_names file kept images)) lists_after);
    };
    openable = subst (λ (s : Settings). CanBeOpened s (contents_in left)) (sym l.config)
        (subst (λ (c : Contents). CanBeOpened settings c) (sym contents) (inr lawful_left));
  }
    where
      of_left : (P : Settings → List CycleImage → Type 0) → P settings (map mends images) → P left.config left.images.items
      of_left P holds =
          subst (λ (s : Settings). P s left.images.items) (sym l.config)
          (subst (λ (list : List CycleImage). P settings list) (sym l.images) holds)

      contents : contents_in left ≡ left_contents
      contents =
          ap (λ (list : List CycleImage). contents_from (map list_in list) left.contents.positions left.contents.floor) l.images
          ∙ ap (λ (ps : List ℕ). contents_from (cycles_in (map mends images)) ps left.contents.floor) l.positions
          ∙ ap (λ (n : ℕ). contents_from (cycles_in (map mends images)) (positions_after done.ended found) n) l.floor_is
