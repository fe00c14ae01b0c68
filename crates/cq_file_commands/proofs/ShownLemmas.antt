-- Why nothing is shown of a file, and what is.
use Rattle.std.proofs.Common.{◌≡◌, ◌≢◌, ◌⊎◌, ◌∙◌, ◌≤◌, ℕ, List, inl, inr, refl, rules, subst, sym}
use Rattle.std.specs.Prelude.{Contains, Option, None, Some, IfErr, IfSome, IsErrAnd, Result, Ok, Err}
use Rattle.std.specs.Prelude.{OnErr, OnOk}
use Rattle.std.specs.Io.KnownBytes.{Appends, Keeps}
use Rattle.std.proofs.KnownBytes.{Keeps-refl}
use Rattle.std.proofs.lemmas.Result.{on_ok_weaker}
use Rattle.cq_model.specs.Settings.{Settings}
use Rattle.cq_folder.specs.Folder.{Files, KeepsFiles}
use Rattle.cq_text.proofs.OutputLemmas.{cut_short}
use Rattle.cq_text.specs.Faults.{IsDeviceFault}
use Rattle.cq_text.specs.Output.{AppendsBeginning}
use Rattle.cq_text.specs.declared.fault.ToolFault.{ToolFault}
use Rattle.cq_text.specs.declared.fault.ToolFault.TheVariants.{BadCycleName, NoSuchFile, OutOfMemory, WriteFault}
use Rattle.cq_config_text.specs.declared.config_text.SavedConfig.{SavedConfig}
use Rattle.cq_files.specs.FolderFaults.{HasCause, IsFileFault, IsGivingFault, IsMissing, IsNameFault, IsShowFault, IsUnreadFault, NamesCycle}
use Rattle.cq_files.specs.Queue.{IsImageFile, IsImageName, IsOpenFolder}
use Rattle.cq_file_commands.specs.Shown.{IsGiven, IsShown}
use Rattle.cq_file_commands.specs.declared.given.GivenImage.{GivenImage}
use Rattle.cq_files.specs.Counted.{CountsFaults}
use Rattle.cq_files.specs.Looking.{Looks}
use Rattle.cq_files.proofs.CauseLemmas.{has_settings}
use Rattle.cq_files.proofs.CountLemmas.{counts_passed, counts_printed, uncounted}

-- no such image is given
pub not_given : {saved : SavedConfig} {names : List (List ℕ)} (Refuses : Settings → Files → ToolFault → Type 0) (a : Option Files)
    (file : List ℕ) (fault : ToolFault) → IsOpenFolder a saved names → IsGivingFault saved.config names file fault
    → IfSome a (λ files. IsShowFault Refuses file files fault)
not_given Refuses None file fault opened why = tt
not_given Refuses (Some a) file OutOfMemory opened why = inl (tt, tt)
not_given {saved} Refuses (Some a) file (NoSuchFile name) opened why = inr (record {
  settings = saved.config;
  configured = has_settings (Some a) opened;
  lawful = opened.lawful;
  cause = inl (why.0, λ is. why.1 (opened.images.whole file is));
})
not_given {saved} Refuses (Some a) file (BadCycleName name) opened why =
    let configured = has_settings (Some a) opened in
    inr (record {
      settings = saved.config;
      configured = configured;
      lawful = opened.lawful;
      cause = inr (opened.images.held file why.1, inl (why.0, record { settings = saved.config; configured = configured; none = why.2 }));
    })
not_given Refuses (Some a) file _ opened why = absurd why

-- why no file is given is no fault of the writer, and none of the device
pub not_given_else : (settings : Settings) (names : List (List ℕ)) (file : List ℕ) (fault : ToolFault) → IsGivingFault settings names file fault
    → (fault ≢ WriteFault) × ¬ IsDeviceFault fault
not_given_else settings names file OutOfMemory why = (search rules, λ device. device)
not_given_else settings names file (NoSuchFile name) why = (search rules, λ device. device)
not_given_else settings names file (BadCycleName name) why = (search rules, λ device. device)
not_given_else settings names file _ why = absurd why

-- what a given image holds is refused
pub given_refused : {saved : SavedConfig} {names : List (List ℕ)} (Refuses : Settings → Files → ToolFault → Type 0) (a : Option Files)
    (file : List ℕ) (cycle : ℕ) (fault : ToolFault) → IsOpenFolder a saved names → Contains names file → IsImageName saved.config cycle file
    → IfSome a (λ files. Refuses saved.config files fault) → IfSome a (λ files. IsShowFault Refuses file files fault)
given_refused Refuses None file cycle fault opened listed named why = tt
given_refused {saved} Refuses (Some a) file cycle fault opened listed named why = inr (record {
  settings = saved.config;
  configured = has_settings (Some a) opened;
  lawful = opened.lawful;
  cause = inr (opened.images.held file listed, inr ((cycle, named), why));
})

-- why it is not read is why nothing is shown of it
not_read : (Refuses : Settings → Files → ToolFault → Type 0) (a : Option Files) (file : List ℕ) (fault : ToolFault)
    → ((settings : Settings) (files : Files) → IsUnreadFault file settings files fault → Refuses settings files fault)
    → IfSome a (λ files. IsShowFault (IsUnreadFault file) file files fault) → IfSome a (λ files. IsShowFault Refuses file files fault)
not_read Refuses None file fault so why = tt
not_read Refuses (Some a) file fault so (inl folder) = inl folder
not_read Refuses (Some a) file fault so (inr refused) = inr (record {
  settings = refused.settings;
  configured = refused.configured;
  lawful = refused.lawful;
  cause = by refused.cause;
})
  where
    by : {settings : Settings} → IsMissing file a fault ⊎ (IsImageFile a file
        × ((IsNameFault file fault × HasCause a fault) ⊎ (NamesCycle settings file × IsUnreadFault file settings a fault)))
        → IsMissing file a fault ⊎ (IsImageFile a file
        × ((IsNameFault file fault × HasCause a fault) ⊎ (NamesCycle settings file × Refuses settings a fault)))
    by (inl missing) = inl missing
    by (inr (there, inl name)) = inr (there, inl name)
    by {settings} (inr (there, inr (named, unread))) = inr (there, inr (named, so settings a unread))

-- its lines are not written
unwritten : (Or : Files → Type 0) (Shows : Settings → List ℕ → List ℕ → Files → Type 0) (a : Option Files) (settings : Settings)
    (file text : List ℕ) → IfSome a (Shows settings file text)
    → IfSome a (λ files. Or files ⊎ ((WriteFault ≡ WriteFault) × ((text : List ℕ) × Shows settings file text files)))
unwritten Or Shows None settings file text shown = tt
unwritten Or Shows (Some a) settings file text shown = inr (refl, (text, shown))

-- what holds of the one fault that a call has holds of its fault
of_fault : {T : Type 0} (result : Result T ToolFault) (is : ToolFault) (P : ToolFault → Type 0)
    → IfErr result (λ fault. fault ≡ is) → P is → IfErr result P
of_fault (Ok value) is P same holds = tt
of_fault (Err fault) is P same holds = subst P (sym same) holds

-- at a fault of the writer nothing is asked of the others
others_silent : {T : Type 0} (P : Type 0) (result : Result T ToolFault) → IfErr result (λ fault. fault ≡ WriteFault)
    → IfErr result (λ fault. fault ≢ WriteFault → P)
others_silent P (Ok value) is = tt
others_silent P (Err fault) is = λ other. absurd (other is)

-- how a command ends that only prints a text
abbrev pub EndsShowing : {T : Type 0} → Option Files → Option Files → Option (List ℕ) → Option (List ℕ) → ℕ → ℕ → (List ℕ → Type 0)
    → (Files → ToolFault → Type 0) → Result T ToolFault → Type 0
EndsShowing before after old new was now IsText IsCause result = record {
  printed : OnOk result ((text : List ℕ) × IsText text × Appends old new text);
  cause : IfErr result (λ fault. IfSome before (λ files. IsCause files fault));
  kept : KeepsFiles before after;
  silent : IfErr result (λ fault. fault ≢ WriteFault → Keeps old new);
  broken : IfErr result (λ fault. fault ≡ WriteFault → (text : List ℕ) × IsText text × AppendsBeginning old new text);
  counted : CountsFaults was now result;
}

-- a fault that is passed on before anything is printed
nothing_shown : {T : Type 0} (before after : Option Files) (output : Option (List ℕ)) (was now : ℕ) (IsText : List ℕ → Type 0)
    (IsCause : Files → ToolFault → Type 0) (result : Result T ToolFault) (fault : ToolFault)
    → IsErrAnd result (λ passed. passed ≡ fault) → fault ≢ WriteFault → IfSome before (λ files. IsCause files fault)
    → KeepsFiles before after → CountsFaults was now result
    → EndsShowing before after output output was now IsText IsCause result
nothing_shown before after output was now IsText IsCause (Ok value) fault is other cause kept counts = absurd is
nothing_shown before after output was now IsText IsCause (Err passed) fault is other cause kept counts = record {
  printed = tt;
  cause = subst (λ (fault : ToolFault). IfSome before (λ files. IsCause files fault)) (sym is) cause;
  kept = kept;
  silent = λ unprinted. Keeps-refl output;
  broken = λ same. absurd (other (sym is ∙ same));
  counted = counts;
}

-- the image that a command is given, of which such faults come where it is not read, and this is shown
module _ (IsFault : List ℕ → ToolFault → Type 0) (Shows : Settings → List ℕ → List ℕ → Files → Type 0) (before : Option Files) (file : List ℕ) where
  -- why it is not shown: it is not read; else the lines are not written
  abbrev IsUnshown : Settings → Files → ToolFault → Type 0
  IsUnshown settings files fault = (IsFault file fault × HasCause files fault)
      ⊎ ((fault ≡ WriteFault) × ((text : List ℕ) × Shows settings file text files))

  abbrev Showing : {T : Type 0} → Option Files → Option (List ℕ) → Option (List ℕ) → ℕ → ℕ → Result T ToolFault → Type 0
  Showing after old new was now result =
      EndsShowing before after old new was now (IsShown Shows file before) (λ files fault. IsShowFault IsUnshown file files fault) result

  -- it is not read
  pub ends_unread : {T U : Type 0} {after : Option Files} {was now : ℕ} {fault : ToolFault} (output : Option (List ℕ))
      (result : Result T ToolFault) → IsErrAnd result (λ passed. passed ≡ fault) → (IsFileFault file fault → IsFault file fault)
      → Looks {T = U} (λ fault. fault ≢ WriteFault) (IsShowFault (IsUnreadFault file) file) before after was now (Err fault)
      → Showing after output output was now result
  ends_unread {after} {was} {now} {fault} output result is so looks =
      nothing_shown before after output was now _ _ result fault is looks.fault
      (not_read IsUnshown before file fault (λ settings files unread. inl (so unread.0, unread.1)) looks.cause) looks.kept
      (counts_passed was now fault result looks.counted is)

  -- it is, and the folder is left
  module _ {middle after : Option Files} {was between now : ℕ} {given : GivenImage} (is_given : IsGiven file before given)
      (looks : Looks (λ fault. fault ≢ WriteFault) (IsShowFault (IsUnreadFault file) file) before middle was between (Ok given))
      (same : after ≡ middle) (no_more : now ≡ between) where
    kept : KeepsFiles before after
    kept = subst (KeepsFiles before) (sym same) looks.kept

    later : was ≤ now
    later = subst (λ (n : ℕ). was ≤ n) (sym no_more) looks.counted.later

    -- what it holds is refused
    pub ends_refused : {T : Type 0} (output : Option (List ℕ)) (result : Result T ToolFault) (fault : ToolFault)
        → IsErrAnd result (λ passed. passed ≡ fault) → (fault ≢ WriteFault) × ¬ IsDeviceFault fault
        → IfSome before (λ files. IsFault file fault × HasCause files fault) → Showing after output output was now result
    ends_refused output result fault is other cause =
        nothing_shown before after output was now _ _ result fault is other.0
        (given_refused IsUnshown before file given.image.cycle fault is_given.opened is_given.image.listed is_given.image.named
        (held before cause)) kept (counts_passed {T = ℕ} was now fault result (uncounted later other.1) is)
      where
        held : (a : Option Files) → IfSome a (λ files. IsFault file fault × HasCause files fault)
            → IfSome a (λ files. IsUnshown given.saved.config files fault)
        held None why = tt
        held (Some a) why = inl why

    -- its lines are written, or a beginning of them
    pub ends_shown : {T : Type 0} (old new : Option (List ℕ)) (result : Result T ToolFault) (text : List ℕ)
        → IfSome before (Shows given.saved.config file text)
        → OnOk result (Appends old new text) → IfErr result (λ fault. fault ≡ WriteFault) → OnErr result (AppendsBeginning old new text)
        → Showing after old new was now result
    ends_shown old new result text shown written fault begun =
        let lines : IsShown Shows file before text = record {
          settings = given.saved.config;
          positions = given.saved.positions.items;
          floor = given.saved.floor;
          lawful = is_given.opened.lawful;
          config = is_given.opened.config;
          shown = shown;
        } in
        record {
          printed = on_ok_weaker result (λ w. (text, lines, w)) written;
          cause = of_fault result WriteFault (λ fault. IfSome before (λ files. IsShowFault IsUnshown file files fault)) fault
              (given_refused IsUnshown before file given.image.cycle WriteFault is_given.opened is_given.image.listed is_given.image.named
              (unwritten (λ files. IsFault file WriteFault × HasCause files WriteFault) Shows before given.saved.config file text shown));
          kept = kept;
          silent = others_silent (Keeps old new) result fault;
          broken = cut_short result (λ b. (text, lines, b)) begun;
          counted = counts_printed was now result later fault;
        }
