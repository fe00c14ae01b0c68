-- How an image is found among the files of a folder.
use Rattle.std.proofs.Common.{◌≡◌, ◌≢◌, ℕ, zero, suc, ◌+◌, ◌<◌, ◌≤◌, List, [], ◌∷◌, ◌++◌, length, get_or, take, refl, ap, sym, subst, arith, inl, inr, rules, string_bytes, true, false, Bool}
use Rattle.std.proofs.lemmas.List.{take_more}
use Rattle.std.specs.Prelude.{Contains, String, Option, None, Some, IfSome, IsSomeAnd}
use Rattle.std.specs.List.{AllByRecursion}
use Rattle.cq_config_text.specs.ConfigText.{IsTextOf}
use Rattle.cq_layout.specs.Version.{is_current}
use Rattle.cq_config_text.specs.declared.config_text.SavedConfig.{SavedConfig}
use Rattle.cq_cycle.specs.declared.roll.TheConstants.{LAST_CYCLE}
use Rattle.cq_folder.specs.Folder.{Files, KeepsFiles, ListsFiles}
use Rattle.cq_folder.specs.declared.names.TheConstants.{CONFIG_FILE}
use Rattle.cq_files.specs.FolderFaults.{HasCause, HasSettings, HasVersion, HoldsConfig, IsFileFault, IsFolderFault, IsShowFault}
use Rattle.cq_files.specs.Queue.{IsImageName}
use Rattle.cq_files.proofs.QueueLemmas.{of_before}
use Rattle.cq_files.proofs.CauseLemmas.{config_there}
use Rattle.cq_model.specs.Settings.{IsLawfulSettings, Settings, texts}
use Rattle.cq_text.specs.Faults.{IsDeviceFault}
use Rattle.cq_text.specs.declared.fault.ToolFault.{ToolFault}
use Rattle.cq_text.specs.declared.fault.ToolFault.TheVariants.{BadCycleName, NoSuchFile, OldVersion, OutOfMemory, WriteFault}
use Rattle.cq_repair.specs.Found.{IsOldOrUnread, IsPlaced, IsUnplaced}

-- a name that was listed is one of them
pub texts_contain : {A : Type 0} (names : List (String A)) (k : ℕ) (name : String A) → k < length names → name ≡ get_or names k name
    → Contains (texts names) (string_bytes name)
texts_contain [] k name low is = absurd (let no_name : ⊥ = omega (arith, low) in no_name)
texts_contain (first ∷ names) zero name low is = (0, omega arith, ap string_bytes (sym is))
texts_contain (first ∷ names) (suc k) name low is =
    let more = texts_contain names k name (omega (arith, low)) is in
    let within = more.1 in
    (suc more.0, omega arith, more.2)

-- what holds of no name holds of none of their texts
pub none_of : {A : Type 0} (Q : List ℕ → Type 0) (names : List (String A)) → AllByRecursion (λ name. ¬ Q (string_bytes name)) names
    → (file : List ℕ) → Contains (texts names) file → ¬ Q file
none_of Q [] all file has holds = let low = has.1 in absurd (let nothing : ⊥ = omega (arith, low) in nothing)
none_of Q (name ∷ names) all file (zero, low, same) holds = all.0 (subst Q (sym same) holds)
none_of Q (name ∷ names) all file (suc k, low, same) holds = none_of Q names all.1 file (k, omega (arith, low), same) holds

-- what holds of the first names and of the next one holds of one more
pub all_more : {A : Type 0} (P : A → Type 0) (xs : List A) (i : ℕ) (x : A) → i < length xs → AllByRecursion P (take i xs) → P (get_or xs i x)
    → AllByRecursion P (take (i + 1) xs)
all_more P xs i x below all next = subst (AllByRecursion P) (sym (take_more xs i x below)) (all_and P (take i xs) (get_or xs i x) all next)
  where
    all_and : {A : Type 0} (P : A → Type 0) (xs : List A) (x : A) → AllByRecursion P xs → P x → AllByRecursion P (xs ++ x ∷ [])
    all_and P [] x all next = (next, tt)
    all_and P (first ∷ xs) x all next = (all.0, all_and P xs x all.1 next)

-- what was read of a folder that was entered
pub record IsEntered (files : Option Files) (saved : SavedConfig) (all : List (List ℕ)) : Type 0 where
  pub lawful : IsLawfulSettings saved.config
  pub low : saved.floor ≤ LAST_CYCLE
  pub config : IfSome files (λ held. IsSomeAnd (held CONFIG_FILE.now) (IsTextOf saved.config saved.positions.items saved.floor))
  pub names : IfSome files (ListsFiles all)

module _ {saved : SavedConfig} {names : List (List ℕ)} where
  abbrev settings_in : (files : Files) → IsEntered (Some files) saved names → HasSettings files saved.config
  settings_in files entered = record { positions = saved.positions.items; floor = saved.floor; spelled = entered.config }

  version_in : (files : Files) (current : Bool) → IsEntered (Some files) saved names → is_current saved.config.layout.store ≡ current
      → HasVersion files current
  version_in files current entered is = record {
    settings = saved.config;
    configured = settings_in files entered;
    lawful = entered.lawful;
    low = entered.low;
    told = is;
  }

  -- why the image is not one of them
  pub not_placed : (a : Option Files) (file : List ℕ) (fault : ToolFault) → IsEntered a saved names → IsUnplaced saved.config names file fault
      → IfSome a (λ files. IsShowFault (IsOldOrUnread file) file files fault)
  not_placed None file fault entered why = tt
  not_placed (Some a) file OutOfMemory entered why = inl (tt, tt)
  not_placed (Some a) file (NoSuchFile name) entered why = inr (record {
    settings = saved.config;
    configured = settings_in a entered;
    lawful = entered.lawful;
    cause = inl (why.0, λ is. why.1 (is.ending, entered.names.whole file is.there));
  })
  not_placed (Some a) file (BadCycleName name) entered why =
      let configured = settings_in a entered in
      inr (record {
        settings = saved.config;
        configured = configured;
        lawful = entered.lawful;
        cause = inr (
          record { ending = why.1; there = entered.names.held file why.2 },
          inl (
            why.0,
            record {
              settings = saved.config;
              configured = configured;
              none = λ cycle. subst (λ (spelled : List ℕ). ¬ IsImageName saved.config cycle spelled) (sym why.0) (why.3 cycle);
            },
          ),
        );
      })
  not_placed (Some a) file OldVersion entered why = inr (record {
    settings = saved.config;
    configured = settings_in a entered;
    lawful = entered.lawful;
    cause = inr (record { ending = why.0; there = entered.names.held file why.1 }, inr (why.2, inl (refl, version_in a false entered why.3)));
  })
  not_placed (Some a) file _ entered why = absurd why

  -- it is, and is not read
  pub not_read : (a b : Option Files) (file : List ℕ) (cycle : ℕ) (fault : ToolFault) → KeepsFiles a b → IsEntered a saved names
      → IsPlaced saved.config names file cycle → IsFileFault file fault → IfSome b (λ files. HoldsConfig files → HasCause files fault)
      → IfSome a (λ files. IsShowFault (IsOldOrUnread file) file files fault)
  not_read None b file cycle fault kept entered placed is cause = tt
  not_read (Some a) b file cycle fault kept entered placed is cause =
      let configured = settings_in a entered in
      let why : HasCause a fault = of_before (Some a) b (λ files. HoldsConfig files → HasCause files fault) kept cause
      (config_there a saved.config configured) in
      inr (record {
        settings = saved.config;
        configured = configured;
        lawful = entered.lawful;
        cause = inr (
          record { ending = placed.ending; there = entered.names.held file placed.listed },
          inr ((cycle, placed.named), inr (version_in a true entered placed.version, (is, why))),
        );
      })

-- why an image is not one of the files is no fault of the writer, and none of the device
pub not_placed_else : (settings : Settings) (names : List (List ℕ)) (file : List ℕ) (fault : ToolFault) → IsUnplaced settings names file fault
    → (fault ≢ WriteFault) × ¬ IsDeviceFault fault
not_placed_else settings names file OutOfMemory why = (search rules, λ device. device)
not_placed_else settings names file (NoSuchFile name) why = (search rules, λ device. device)
not_placed_else settings names file (BadCycleName name) why = (search rules, λ device. device)
not_placed_else settings names file OldVersion why = (search rules, λ device. device)
not_placed_else settings names file _ why = absurd why

-- a fault that is found before any image is none of the writer
pub unprinted : (fault : ToolFault) → IsFolderFault fault → fault ≢ WriteFault
unprinted fault folder printed = subst IsFolderFault printed folder
