-- The lines of `check`.
use Rattle.std.proofs.Common.{◌≡◌, Bool, true, false, ℕ, ◌+◌, ◌<◌, ◌≤◌, List, [], ◌∷◌, ◌++◌, length, get_or, map, take, take_all, ap, inl, inr, refl, subst, sym, ◌∙◌}
use Rattle.std.specs.Prelude.{◌||◌}
use Rattle.std.proofs.lemmas.List.{append-nil, take_more}
use Rattle.std.proofs.lemmas.List.Folds.{list_any-append}
use Rattle.std.proofs.lemmas.Grind.{flat_map-append}
use Rattle.std.specs.Prelude.{◌≢◌, Option, None, Some, IfErr, IfOk, IfSome, IsErrAnd, OnOk, Result, Ok, Err, string_bytes}
use Rattle.std.specs.Io.KnownBytes.{Appends, Keeps}
use Rattle.std.specs.List.{AllByRecursion}
use Rattle.cq_model.specs.Settings.{Settings}
use Rattle.cq_config_text.specs.declared.config_text.SavedConfig.{SavedConfig}
use Rattle.cq_file_commands.specs.declared.checking.Checked.{Checked}
use Rattle.cq_text.specs.declared.fault.ToolFault.{ToolFault}
use Rattle.cq_text.specs.declared.fault.ToolFault.TheVariants.{ImagesAtFault, WriteFault}
use Rattle.cq_text.specs.Output.{AppendsBeginning}
use Rattle.cq_files.specs.Counted.{CountsFaults}
use Rattle.cq_files.specs.Looking.{Looks}
use Rattle.cq_files.proofs.CauseLemmas.{of_any}
use Rattle.cq_files.specs.Queue.{AreImageFiles, IsImageName, IsOpenFolder}
use Rattle.cq_files.specs.FolderFaults.{HasCause, IsFirstFault, IsLookingFault, IsSmall}
use Rattle.cq_file_commands.specs.FileFaults.{IsCheckFault}
use Rattle.cq_files.proofs.QueueLemmas.{keeps-trans, of_before}
use Rattle.cq_files.proofs.OrderLemmas.{all_files}
use Rattle.cq_folder.specs.Folder.{Files, KeepsFiles}
use Rattle.cq_files.specs.declared.opening.ImageFile.{ImageFile}
use Rattle.cq_file_commands.specs.CheckText.{IsChecked, check_text, has_fault, is_faulty, line_of}

-- the lines so far, of the files as they were at first
pub record Checking (before now : Option Files) (settings : Settings) (images : List ImageFile) (text : List ℕ) (faulty : Bool) : Type 0 where
  pub kept : KeepsFiles before now
  pub text_is : IfSome before (λ held. text ≡ check_text settings images held)
  pub faulty_is : IfSome before (λ held. faulty ≡ has_fault settings images held)

-- two facts of the files make a third
both_hold : (a : Option Files) (P Q R : Files → Type 0) → ((held : Files) → P held → Q held → R held)
    → IfSome a P → IfSome a Q → IfSome a R
both_hold None P Q R join one two = tt
both_hold (Some a) P Q R join one two = join a one two

or-false : (b : Bool) → (b || false) ≡ b
or-false true = refl
or-false false = refl

-- one file more is checked
pub one_checked : (before middle now : Option Files) (settings : Settings) (files : List ImageFile) (i : ℕ) (file : ImageFile)
    (text text_now : List ℕ) (faulty one faulty_now : Bool)
    → Checking before middle settings (take i files) text faulty → i < length files → file ≡ get_or files i file
    → KeepsFiles middle now
    → IfSome middle (λ held. text_now ≡ text ++ line_of settings file (held (string_bytes file.name)))
    → IfSome middle (λ held. one ≡ is_faulty settings file (held (string_bytes file.name)))
    → faulty_now ≡ (faulty || one)
    → Checking before now settings (take (i + 1) files) text_now faulty_now
one_checked before middle now settings files i file text text_now faulty one faulty_now checking low file_is kept line fault faulty_is =
    let all : take (i + 1) files ≡ take i files ++ file ∷ [] =
    take_more files i file low ∙ ap (λ (f : ImageFile). take i files ++ f ∷ []) (sym file_is) in
    let Line : Files → List ℕ = λ held. line_of settings file (held (string_bytes file.name)) in
    let Fault : Files → Bool = λ held. is_faulty settings file (held (string_bytes file.name)) in
    record {
      kept = keeps-trans before middle now checking.kept kept;
      text_is = both_hold before _ _ _
          (λ held so_far added. added ∙ ap (λ (t : List ℕ). t ++ Line held) so_far
          ∙ ap (λ (t : List ℕ). check_text settings (take i files) held ++ t) (sym (append-nil (Line held)))
          ∙ sym (flat_map-append (λ (f : ImageFile). line_of settings f (held (string_bytes f.name))) (take i files) (file ∷ []))
          ∙ ap (λ (fs : List ImageFile). check_text settings fs held) (sym all))
          checking.text_is
          (of_before before middle (λ held. text_now ≡ text ++ Line held) checking.kept line);
      faulty_is = both_hold before _ _ _
          (λ held so_far added. faulty_is ∙ ap (λ (b : Bool). b || one) so_far
          ∙ ap (λ (b : Bool). has_fault settings (take i files) held || b) (added ∙ sym (or-false (Fault held)))
          ∙ sym (list_any-append (λ (f : ImageFile). is_faulty settings f (held (string_bytes f.name))) (take i files) (file ∷ []))
          ∙ ap (λ (fs : List ImageFile). has_fault settings fs held) (sym all))
          checking.faulty_is
          (of_before before middle (λ held. one ≡ Fault held) checking.kept fault);
    }

-- all files are checked
pub all_checked : (before now : Option Files) (settings : Settings) (files : List ImageFile) (i : ℕ) (text : List ℕ) (faulty : Bool)
    → Checking before now settings (take i files) text faulty → length files ≤ i
    → Checking before now settings files text faulty
all_checked before now settings files i text faulty checking past =
    subst (λ (fs : List ImageFile). Checking before now settings fs text faulty) (take_all i files past) checking

-- what is known when the images of a folder were checked
pub is_checked : {saved : SavedConfig} {names : List (List ℕ)} (a b : Option Files) (files slice : List ImageFile) (result : Result Checked ToolFault)
    → KeepsFiles a b → IsOpenFolder a saved names
    → AllByRecursion (λ (file : ImageFile). IsImageName saved.config file.cycle (string_bytes file.name)) files
    → map (λ (file : ImageFile). string_bytes file.name) files ≡ names → slice ≡ files
    → IfOk result (λ checked. IfSome b (λ held. string_bytes checked.text ≡ check_text saved.config slice held))
    → IfOk result (λ checked. IfSome b (λ held. checked.is_faulty ≡ has_fault saved.config slice held))
    → IfOk result (λ _. IfSome b (λ held. AllByRecursion (λ (file : ImageFile). IsSmall held saved.config (string_bytes file.name)) slice))
    → IfOk result (λ checked. IsChecked a (string_bytes checked.text) checked.is_faulty)
is_checked a b files slice (Err fault) kept opened named same all text faulty small = tt
is_checked {saved} {names} a b files slice (Ok checked) kept opened named same all text faulty small =
    let settings = saved.config in
    record {
      settings = settings;
      positions = saved.positions.items;
      floor = saved.floor;
      images = slice;
      lawful = opened.lawful;
      config = opened.config;
      all = subst (λ (images : List ImageFile). IfSome a (AreImageFiles settings images)) (sym all)
          (all_files a settings files names named same opened.images);
      small = of_before a b (λ held. AllByRecursion (λ (file : ImageFile). IsSmall held settings (string_bytes file.name)) slice) kept small;
      text_is = of_before a b (λ held. string_bytes checked.text ≡ check_text settings slice held) kept text;
      faulty_is = of_before a b (λ held. checked.is_faulty ≡ has_fault settings slice held) kept faulty;
    }

-- why images are not looked at, as `check` says it
not_looked_at : (a : Option Files) (fault : ToolFault) → IfSome a (λ files. HasCause files fault × IsFirstFault IsSmall files fault)
    → IsLookingFault fault → IfSome a (λ files. IsCheckFault files fault)
not_looked_at None fault cause is = tt
not_looked_at (Some a) fault cause is = inr (inr (cause.0, cause.1, is))

-- how `check` ends
module _ (before after : Option Files) (old new : Option (List ℕ)) where
  abbrev Checks : {T : Type 0} → ℕ → ℕ → Result T ToolFault → Type 0
  Checks was now result = record {
    printed : OnOk result ((text : List ℕ) × IsChecked before text false × Appends old new text);
    at_fault : IfErr result (λ fault. fault ≡ ImagesAtFault → (text : List ℕ) × IsChecked before text true × Appends old new text);
    cause : IfErr result (λ fault. IfSome before (λ files. IsCheckFault files fault));
    kept : KeepsFiles before after;
    silent : IfErr result (λ fault. fault ≢ WriteFault → fault ≢ ImagesAtFault → Keeps old new);
    broken : IfErr result (λ fault. fault ≡ WriteFault → (text : List ℕ) × (faulty : Bool) × IsChecked before text faulty
        × AppendsBeginning old new text);
    counted : CountsFaults was now result;
  }

  -- the images are not looked at
  pub unchecked : {T U : Type 0} {was now : ℕ} {fault : ToolFault} (result : Result T ToolFault) → IsErrAnd result (λ passed. passed ≡ fault)
      → Looks {T = U} IsLookingFault (λ files fault. HasCause files fault × IsFirstFault IsSmall files fault) before after was now (Err fault)
      → Keeps old new → Checks was now result
  unchecked (Ok value) is looks keeps = absurd is
  unchecked {T} {was} {now} {fault} (Err passed) is looks keeps = subst (λ (f : ToolFault). Checks {T = T} was now (Err f)) (sym is) (record {
    printed = tt;
    at_fault = λ same. absurd (subst IsLookingFault same looks.fault);
    cause = not_looked_at before fault looks.cause looks.fault;
    kept = looks.kept;
    silent = λ _ _. keeps;
    broken = λ same. absurd (subst IsLookingFault same looks.fault);
    counted = record { later = looks.counted.later; device = looks.counted.device };
  })

  -- they are, and the lines are not written
  pub unwritten_check : {T : Type 0} {was now : ℕ} {fault : ToolFault} (result : Result T ToolFault) (text : List ℕ) (faulty : Bool)
      → IsErrAnd result (λ passed. passed ≡ fault) → fault ≡ WriteFault → IsChecked before text faulty
      → AppendsBeginning old new text → KeepsFiles before after → was ≤ now → Checks was now result
  unwritten_check (Ok value) text faulty is printing checked begun kept later = absurd is
  unwritten_check {T} {was} {now} (Err passed) text faulty is printing checked begun kept later =
      subst (λ (f : ToolFault). Checks {T = T} was now (Err f)) (sym (is ∙ printing)) (record {
        printed = tt;
        at_fault = λ same. let e : WriteFault ≡ ImagesAtFault = same in cc;
        cause = of_any before (λ files. IsCheckFault files WriteFault) (λ files. inr (inl refl));
        kept = kept;
        silent = λ other. absurd (other refl);
        broken = λ _. (text, faulty, checked, begun);
        counted = record { later = later; device = λ device. absurd device };
      })
