-- The images that were read so far.
use Rattle.std.proofs.Common.{◌≡◌, ◌≤◌, ℕ, List, [], ◌∷◌, ◌++◌, append_assoc, length, map, ap, arith, refl, sym, ◌∙◌}
use Rattle.std.specs.Prelude.{IfSome, Option}
use Rattle.std.specs.List.{AllByRecursion}
use Rattle.std.proofs.lemmas.List.{map-append}
use Rattle.cq_folder.specs.Folder.{Entered, Files, KeepsFiles}
use Rattle.cq_image.specs.Image.{AreNext}
use Rattle.cq_layout.specs.Layout.{CycleLayout}
use Rattle.cq_layout.proofs.Each.{each-append}
use Rattle.cq_files.specs.declared.opening.CycleImage.{CycleImage}
use Rattle.cq_files.specs.declared.opening.ImageFile.{ImageFile}
use Rattle.cq_files.proofs.OrderLemmas.{none_so, one_more_so, yielded_whole}
use Rattle.cq_files.proofs.QueueLemmas.{file_part, keeps-refl, keeps-trans}

module _ (Holds : Files → CycleImage → Type 0) (IsRight : Files → ImageFile → Type 0) (layout : CycleLayout) (all : List ImageFile)
    (before : Option Files) (was : ℕ) (entered : Entered) where
  -- these images were read of the first of all files, and others are left: the files hold them, their messages fit the
  -- layout, and each file that was read is right. No file has changed since
  pub record HaveRead (front left : List ImageFile) (images : List CycleImage) (now : Option Files) (failed : ℕ) (inside : Entered) : Type 0 where
    pub files : map file_part images ≡ front
    pub fit : AllByRecursion (λ image. AreNext layout [] image.messages) images
    pub held : IfSome before (λ held. AllByRecursion (Holds held) images)
    pub right : IfSome before (λ held. AllByRecursion (IsRight held) front)
    pub parted : all ≡ front ++ left
    pub kept : KeepsFiles before now
    pub counted : was ≤ failed
    pub stays : inside ≡ entered

module _ {Holds : Files → CycleImage → Type 0} {IsRight : Files → ImageFile → Type 0} {layout : CycleLayout} {all : List ImageFile}
    {before : Option Files} {was : ℕ} {entered : Entered} where
  pub none_read : {left : List ImageFile} → left ≡ all → HaveRead Holds IsRight layout all before was entered [] left [] before was entered
  none_read is = record {
    files = refl;
    fit = tt;
    held = none_so before Holds;
    right = none_so before IsRight;
    parted = sym is;
    kept = keeps-refl before;
    counted = omega arith;
    stays = refl;
  }

  module _ {front left : List ImageFile} {images : List CycleImage} {now : Option Files} {failed : ℕ} {inside : Entered}
      (read : HaveRead Holds IsRight layout all before was entered front left images now failed inside) where
    -- the next file is one of all
    pub parted_at : {file : ImageFile} {rest : List ImageFile} → left ≡ file ∷ rest → all ≡ front ++ file ∷ rest
    parted_at is = read.parted ∙ ap (λ (others : List ImageFile). front ++ others) is

    -- one image more
    pub one_read : {file : ImageFile} {rest : List ImageFile} {next : Option Files} {later : ℕ} {stays : Entered} (image : CycleImage)
        → left ≡ file ∷ rest → image.file ≡ file → AreNext layout [] image.messages → IfSome now (λ held. Holds held image)
        → IfSome now (λ held. IsRight held file) → KeepsFiles now next → failed ≤ later → stays ≡ inside
        → HaveRead Holds IsRight layout all before was entered (front ++ file ∷ []) rest (images ++ image ∷ []) next later stays
    one_read {file} {rest} {next} image is same fits holds right kept counted still = record {
      files = map-append file_part images (image ∷ []) ∙ ap (λ (files : List ImageFile). files ++ image.file ∷ []) read.files
          ∙ ap (λ (f : ImageFile). front ++ f ∷ []) same;
      fit = each-append (λ (image : CycleImage). AreNext layout [] image.messages) images (image ∷ []) read.fit (fits, tt);
      held = one_more_so before now Holds images image read.kept read.held holds;
      right = one_more_so before now IsRight front file read.kept read.right right;
      parted = parted_at is ∙ sym (append_assoc front (file ∷ []) rest);
      kept = keeps-trans before now next read.kept kept;
      counted = omega (arith, read.counted, counted);
      stays = still ∙ read.stays;
    }

    -- all images, where no file is left
    pub all_read : length left ≡ 0 → map file_part images ≡ all
    all_read none = read.files ∙ yielded_whole all front left read.parted none
