-- How a command ends that prints or changes the names of a queue.
use Rattle.std.proofs.Common.{◌≡◌, ◌≢◌, ◌⊎◌, ◌≤◌, ℕ, List, [], ◌∷◌, ap, inl, inr, refl, subst, sym, ◌∙◌}
use Rattle.std.proofs.KnownBytes.{Keeps-refl}
use Rattle.std.specs.Io.KnownBytes.{Appends, Keeps}
use Rattle.std.specs.Prelude.{Option, None, Some, IfErr, IfOk, IfSome, IsErrAnd, OnErr, OnOk, Result, Ok, Err, if◌then◌else◌}
use Rattle.std.specs.Str.{bytes_eq}
use Rattle.cq_folder.specs.Folder.{Files, KeepsFiles, KeepsOrWrites, WritesFile}
use Rattle.cq_folder.specs.declared.names.TheConstants.{CONFIG_FILE}
use Rattle.cq_files.specs.Counted.{CountsFaults}
use Rattle.cq_files.specs.FolderFaults.{IsFileFault, IsSaveFault, MindsVersion}
use Rattle.cq_files.specs.Openable.{IsOpened}
use Rattle.cq_files.specs.Saving.{KeepsOrSaves}
use Rattle.cq_files.specs.declared.opening.SavedQueue.{SavedQueue}
use Rattle.cq_files.proofs.OpenLemmas.{opened_in}
use Rattle.cq_files.proofs.QueueLemmas.{keeps-trans}
use Rattle.cq_model.specs.Settings.{Settings}
use Rattle.cq_model.specs.declared.contents.Contents.{Contents}
use Rattle.cq_orders.specs.declared.settings.NameChange.{NameChange}
use Rattle.cq_orders.specs.declared.settings.NameChange.TheVariants as change
use Rattle.cq_points.specs.Points.{IsPointFault}
use Rattle.cq_text.specs.Faults.{IsDeviceFault}
use Rattle.cq_text.specs.Output.{AppendsBeginning}
use Rattle.cq_text.specs.declared.fault.ToolFault.{ToolFault}
use Rattle.cq_text.specs.declared.fault.ToolFault.TheVariants.{BadIndex, BadMoment, WriteFault}
use Rattle.cq_names.specs.Edits.{IsChange, IsDecision, IsDecisionFault, IsEdit, IsMeantFault, IsWordFault}
use Rattle.cq_names.specs.Names.{Decides, Ends, IsChanged, IsDone, IsListed, IsNamesFault, IsOutcome, IsUndecided, IsUnsaved, all_done}
use Rattle.cq_names.specs.declared.deciding.Decision.{Decision}
use Rattle.cq_names.specs.declared.deciding.Decision.TheVariants.{Change, Refuse}
use Rattle.cq_names.specs.declared.editing.Plan.{Plan}
use Rattle.cq_names.specs.declared.fault.NameRefusal.{NameRefusal}

-- the same decision, of the queue that the files hold
pub decided : (change : NameChange) (a : Option Files) (queue : SavedQueue) (result : Result Decision ToolFault) → IsOpened a queue
    → IfOk result (IsDecision change queue.config queue.contents) → IfOk result (Decides change a)
decided change a queue (Ok decision) opened is = record { queue = queue; opened = opened; decided = is }
decided change a queue (Err fault) opened is = tt

pub undecided : (change : NameChange) (a : Option Files) (queue : SavedQueue) (result : Result Decision ToolFault) → IsOpened a queue
    → IfErr result (IsDecisionFault change queue.config) → IfErr result (λ fault. IfSome a (λ files. IsUndecided change files fault))
undecided change a queue (Ok decision) opened is = tt
undecided change None queue (Err fault) opened is = tt
undecided change (Some files) queue (Err fault) opened (inl memory) = inr (inl memory)
undecided change (Some files) queue (Err fault) opened (inr word) =
    inr (inr (record { queue = queue; opened = opened_in files queue opened; word = word }))

-- a word that means no position has nothing to do with the device or the writer
meant_device : (settings : Settings) (word : List ℕ) (fault : ToolFault) → IsPointFault settings.roll settings.epoch word fault
    → (¬ IsDeviceFault fault) × (fault ≢ WriteFault)
meant_device settings word BadIndex is = (λ device. device, λ e. cc)
meant_device settings word BadMoment is = (λ device. device, λ e. cc)
meant_device settings word _ is = absurd is

maybe_device : (settings : Settings) (word : Option (List ℕ)) (fault : ToolFault) → IsMeantFault settings word fault
    → (¬ IsDeviceFault fault) × (fault ≢ WriteFault)
maybe_device settings None fault is = absurd is
maybe_device settings (Some word) fault is = meant_device settings word fault is

word_device : (change : NameChange) (settings : Settings) (fault : ToolFault) → IsWordFault change settings fault
    → (¬ IsDeviceFault fault) × (fault ≢ WriteFault)
word_device change.List settings fault is = absurd is
word_device (change.Add name at) settings fault is = maybe_device settings _ fault is.1
word_device (change.Remove name) settings fault is = absurd is
word_device (change.Move name to) settings fault is = meant_device settings _ fault is.1

undecided_device : (change : NameChange) (settings : Settings) (fault : ToolFault) → IsDecisionFault change settings fault
    → (¬ IsDeviceFault fault) × (fault ≢ WriteFault)
undecided_device change settings fault (inl memory) =
    subst (λ (f : ToolFault). (¬ IsDeviceFault f) × (f ≢ WriteFault)) (sym memory) (λ device. device, λ e. cc)
undecided_device change settings fault (inr word) = word_device change settings fault word

-- no failure is counted for it
pub counts_still : {T : Type 0} (was now : ℕ) (change : NameChange) (settings : Settings) (result : Result T ToolFault) → was ≤ now
    → IfErr result (IsDecisionFault change settings) → CountsFaults was now result
counts_still was now change settings (Ok value) later is = record { later = later; device = tt }
counts_still was now change settings (Err fault) later is =
    record { later = later; device = λ device. absurd ((undecided_device change settings fault is).0 device) }

pub unprinted_still : {T : Type 0} (change : NameChange) (settings : Settings) (result : Result T ToolFault)
    → IfErr result (IsDecisionFault change settings) → IfErr result (λ fault. fault ≢ WriteFault)
unprinted_still change settings (Ok value) is = tt
unprinted_still change settings (Err fault) is = (undecided_device change settings fault is).1

-- the folder is of version 2, and it is decided or not
pub minds_still : {T U : Type 0} (a : Option Files) (value : T) (result : Result U ToolFault) → IfSome a (λ files. MindsVersion {T = T} files (Ok value))
    → IfSome a (λ files. MindsVersion files result)
minds_still None value result second = tt
minds_still (Some files) value (Ok decision) second = second
minds_still (Some files) value (Err fault) second = inr (inr second)

-- a fault that is passed on minds the version as the one that it was
pub minds_passed : {U : Type 0} (a : Option Files) (fault : ToolFault) (result : Result U ToolFault)
    → IfSome a (λ files. MindsVersion {T = U} files (Err fault)) → IsErrAnd result (λ passed. passed ≡ fault)
    → IfSome a (λ files. MindsVersion files result)
minds_passed None fault result minds is = tt
minds_passed (Some files) fault (Ok value) minds is = absurd is
minds_passed {U} (Some files) fault (Err passed) minds is = subst (λ (f : ToolFault). MindsVersion {T = U} files (Err f)) (sym is) minds

-- what is written after calls that keep all files
kept_then_written : (a b c : Option Files) (name bytes : List ℕ) → KeepsFiles a b → WritesFile b c name bytes → WritesFile a c name bytes
kept_then_written None b c name bytes kept done = tt
kept_then_written (Some a) None c name bytes kept done = absurd kept
kept_then_written (Some a) (Some b) None name bytes kept done = absurd done
kept_then_written (Some a) (Some b) (Some c) name bytes kept done = λ other.
    done other ∙ ap (λ (o : Option (List ℕ)). if bytes_eq name other then Some bytes else o) (kept other)

-- a change is done if it is saved
changed_done : (change : NameChange) (a c : Option Files) (text : List ℕ) → IsChange change → IsChanged change a c text → IsDone change a c text
changed_done change.List a c text is done = absurd is
changed_done (change.Add name at) a c text is done = done
changed_done (change.Remove name) a c text is done = done
changed_done (change.Move name to) a c text is done = done

-- what was decided is saved
pub changed_by : (change : NameChange) (a b c : Option Files) (plan : Plan) (text : List ℕ) → IsChange change → Decides change a (Change plan)
    → KeepsFiles a b → WritesFile b c CONFIG_FILE.now plan.config.items → text ≡ plan.line.items → IsDone change a c text
changed_by change a b c plan text is from kept written text_is = changed_done change a c text is (record {
  queue = from.queue;
  opened = from.opened;
  edit = from.decided.0;
  edited = from.decided.1;
  config = plan.config.items;
  config_is = from.decided.2.config;
  written = kept_then_written a b c CONFIG_FILE.now plan.config.items kept written;
  text_is = text_is ∙ from.decided.2.line;
})

-- all or nothing was saved
pub kept_or_changed : (change : NameChange) (a b c : Option Files) (plan : Plan) → IsChange change → Decides change a (Change plan)
    → KeepsFiles a b → KeepsOrWrites b c ((CONFIG_FILE.now, plan.config.items) ∷ [])
    → KeepsFiles a c ⊎ ((text : List ℕ) × IsDone change a c text)
kept_or_changed change a b c plan is from kept (inl same) = inl (keeps-trans a b c kept same)
kept_or_changed change a b c plan is from kept (inr written) =
    inr (plan.line.items, changed_by change a b c plan plan.line.items is from kept written refl)

-- a fault of a change is one of the command
changes_fault : (change : NameChange) (files : Files) (fault : ToolFault) → IsChange change
    → IsUndecided change files fault ⊎ IsUnsaved change files fault → IsNamesFault change files fault
changes_fault change.List files fault is cause = absurd is
changes_fault (change.Add name at) files fault is cause = cause
changes_fault (change.Remove name) files fault is cause = cause
changes_fault (change.Move name to) files fault is cause = cause

pub undone : (change : NameChange) (a : Option Files) (fault : ToolFault) → IsChange change → IfSome a (λ files. IsUndecided change files fault)
    → IfSome a (λ files. IsNamesFault change files fault)
undone change None fault is cause = tt
undone change (Some files) fault is cause = changes_fault change files fault is (inl cause)

-- why what was decided is not saved or not printed
pub unsaved : (change : NameChange) (a : Option Files) (plan : Plan) (fault : ToolFault) → IsChange change → Decides change a (Change plan)
    → (fault ≡ WriteFault) ⊎ (IsFileFault CONFIG_FILE.now fault × IsSaveFault fault) → IfSome a (λ files. IsNamesFault change files fault)
unsaved change None plan fault is from saving = tt
unsaved change (Some files) plan fault is from saving = changes_fault change files fault is (inr (record {
  queue = from.queue;
  opened = opened_in files from.queue from.opened;
  edit = from.decided.0;
  edited = subst (λ (c : Contents). IsEdit change from.queue.config c from.decided.0) from.opened.whole from.decided.1;
  saving = saving;
}))

-- how a command ends that was refused by a fault
pub ends_not : (change : NameChange) (before after : Option Files) (old new : Option (List ℕ)) (result : Result (Option NameRefusal) ToolFault)
    (fault : ToolFault) → IsErrAnd result (λ passed. passed ≡ fault)
    → KeepsOrSaves before after ((text : List ℕ) × IsDone change before after text) fault → (fault ≢ WriteFault → Keeps old new)
    → (fault ≡ WriteFault → (text : List ℕ) × IsDone change before after text × AppendsBeginning old new text)
    → Ends change before after old new result
ends_not change before after old new (Ok passed) fault is left silent broken = absurd is
ends_not change before after old new (Err passed) fault is left silent broken = record {
  done = tt;
  left = subst (KeepsOrSaves before after ((text : List ℕ) × IsDone change before after text)) (sym is) left;
  silent = subst (λ (f : ToolFault). f ≢ WriteFault → Keeps old new) (sym is) silent;
  broken = subst (λ (f : ToolFault). f ≡ WriteFault → (text : List ℕ) × IsDone change before after text × AppendsBeginning old new text) (sym is) broken;
}

-- a change is refused
pub ends_refused : (change : NameChange) (before after : Option Files) (old : Option (List ℕ)) (refusal : NameRefusal)
    → Decides change before (Refuse refusal) → KeepsFiles before after → IsOutcome change before after old old (Some refusal)
ends_refused change before after old refusal from kept =
    (record { queue = from.queue; opened = from.opened; refuses = from.decided }, kept, Keeps-refl old)

-- the names are listed, and the text is written or not
pub ends_listed : {T : Type 0} (before after : Option Files) (old new : Option (List ℕ)) (text : List ℕ) (result : Result T ToolFault)
    → IsListed before after text → OnOk result (Appends old new text) → IfErr result (λ fault. fault ≡ WriteFault)
    → OnErr result (AppendsBeginning old new text) → Ends change.List before after old new (all_done result)
ends_listed before after old new text (Ok printed) listed appends is begins =
    record { done = (text, listed, appends); left = tt; silent = tt; broken = tt }
ends_listed before after old new text (Err fault) listed appends is begins = record {
  done = tt;
  left = record { unsaved = λ other. listed.kept; scarce = λ memory. listed.kept; whole = inl listed.kept };
  silent = λ other. absurd (other is);
  broken = λ same. (text, listed, begins);
}

pub listed_fault : {T : Type 0} (a : Option Files) (queue : SavedQueue) (result : Result T ToolFault) → IsOpened a queue
    → IfErr result (λ fault. fault ≡ WriteFault) → IfErr result (λ fault. IfSome a (λ files. IsNamesFault change.List files fault))
listed_fault a queue (Ok printed) opened is = tt
listed_fault None queue (Err fault) opened is = tt
listed_fault (Some files) queue (Err fault) opened is =
    inr (inr (record { queue = queue; opened = opened_in files queue opened; fault_is = is }))
