-- How a command ends that trims a queue.
use Rattle.std.proofs.Common.{◌≡◌, ◌≢◌, ◌⊎◌, ℕ, Bool, Global, true, false, List, [], ap, inl, inr, map, refl, subst, sym, ◌∙◌}
use Rattle.std.proofs.KnownBytes.{Keeps-refl}
use Rattle.std.specs.Io.KnownBytes.{Keeps}
use Rattle.std.specs.Prelude.{Option, None, Some, IfSome, IsErrAnd, Result, Ok, Err, String, string_bytes}
use Rattle.cq_folder.specs.Folder.{Files, KeepsFiles, NamedFile, SavesAndRemoves, after_removals, after_writes, named_file}
use Rattle.cq_files.specs.FolderFaults.{IsSaveFault, TellsFile}
use Rattle.cq_files.specs.Queue.{HoldQueue, contents_in}
use Rattle.cq_files.specs.Saving.{KeepsOrSaves}
use Rattle.cq_files.proofs.QueueLemmas.{keeps-trans}
use Rattle.cq_model.specs.Settings.{texts}
use Rattle.cq_orders.specs.declared.settings.TrimSettings.{TrimSettings}
use Rattle.cq_text.specs.Output.{AppendsBeginning}
use Rattle.cq_text.specs.declared.fault.ToolFault.{ToolFault}
use Rattle.cq_text.specs.declared.fault.ToolFault.TheVariants.{WriteFault}
use Rattle.cq_trim.specs.Plans.{Decides, IsAllowed, IsUndecided}
use Rattle.cq_trim.specs.Trimmed.{IsFirstLoser, KeepsOrLeaves, Leaves, first_touched}
use Rattle.cq_trim.specs.Trims.{IsOutcome, IsTrimFault, IsTrimmed, Trims, outcome_of}
use Rattle.cq_trim.specs.declared.fault.TrimFault.{TrimFault}
use Rattle.cq_trim.specs.declared.fault.TrimFault.TheVariants.{MessagesLeft, Tool}
use Rattle.cq_trim.specs.declared.planning.Decision.{Decision}
use Rattle.cq_trim.specs.declared.planning.Decision.TheVariants.{Refuse, Trim}
use Rattle.cq_trim.specs.declared.planning.Plan.{Plan}

-- writing and removing nothing changes no file
pub nothing_left : (a : Option Files) (changes : List NamedFile) (removed : List (List ℕ)) → changes ≡ [] → removed ≡ [] → SavesAndRemoves a a changes removed
nothing_left a changes removed none empty =
    subst (λ (cs : List NamedFile). SavesAndRemoves a a cs removed) (sym none)
    (subst (λ (rs : List (List ℕ)). SavesAndRemoves a a [] rs) (sym empty) (by a))
  where
    by : (o : Option Files) → SavesAndRemoves o o [] []
    by None = tt
    by (Some files) = λ name. refl

-- what was saved after calls that keep all files
kept_then_saved : (a b c : Option Files) (changes : List NamedFile) (removed : List (List ℕ)) → KeepsFiles a b → SavesAndRemoves b c changes removed
    → SavesAndRemoves a c changes removed
kept_then_saved None b c changes removed kept done = tt
kept_then_saved (Some a) None c changes removed kept done = absurd kept
kept_then_saved (Some a) (Some b) None changes removed kept done = absurd done
kept_then_saved (Some a) (Some b) (Some c) changes removed kept done = λ name.
    done name ∙ ap (λ (held : Files). after_removals removed (after_writes changes held) name) (λ i other. kept other i)

kept_then_left : (dry : Bool) (a b c : Option Files) (changes : List NamedFile) (removed : List (List ℕ)) → KeepsFiles a b
    → Leaves dry changes removed b c → Leaves dry changes removed a c
kept_then_left true a b c changes removed kept same = keeps-trans a b c kept same
kept_then_left false a b c changes removed kept done = kept_then_saved a b c changes removed kept done

-- the decision is a refusal for this name
abbrev pub IsRefusal : Decision → List ℕ → Type 0
IsRefusal (Trim plan) name = ⊥
IsRefusal (Refuse loser) name = string_bytes loser ≡ name

-- a fault of an order that is not carried out
pub undone : (a : Option Files) (settings : TrimSettings) (fault : ToolFault) → IfSome a (λ files. IsUndecided settings files fault)
    → IfSome a (λ files. IsTrimFault settings files fault)
undone None settings fault cause = tt
undone (Some files) settings fault (inl unopened) = inl unopened
undone (Some files) settings fault (inr word) = inr (record { queue = word.0; opened = word.1; cause = inl word.2 })

-- what was decided, and the files that it left
pub trimmed_by : (settings : TrimSettings) (a b c : Option Files) (plan : Plan) (text : List ℕ) → Decides settings a (Trim plan)
    → KeepsFiles a b → Leaves settings.dry_run (map named_file plan.changes.items) (texts plan.removed.items) b c
    → text ≡ plan.text.items → IsTrimmed settings a c text
trimmed_by settings a b c plan text from kept left text_is =
    let decided = from.decided.decided in
    record {
      queue = from.queue;
      floor = from.decided.floor;
      found = record { lawful = from.lawful; held = from.held; openable = from.openable; floor_is = from.decided.floor_is };
      allowed = decided.unless_forced;
      changes = map named_file plan.changes.items;
      changes_are = decided.plan_is.changes;
      left = kept_then_left settings.dry_run a b c (map named_file plan.changes.items) _ kept
          (subst (λ (names : List (List ℕ)). Leaves settings.dry_run (map named_file plan.changes.items) names b c) decided.plan_is.removed left);
      text_is = text_is ∙ decided.plan_is.text;
    }

-- all or nothing was saved
pub kept_or_trimmed : (settings : TrimSettings) (a b c : Option Files) (plan : Plan) → Decides settings a (Trim plan) → KeepsFiles a b
    → KeepsOrLeaves settings.dry_run (map named_file plan.changes.items) (texts plan.removed.items) b c
    → KeepsFiles a c ⊎ ((text : List ℕ) × IsTrimmed settings a c text)
kept_or_trimmed settings a b c plan from kept (inl same) = inl (keeps-trans a b c kept same)
kept_or_trimmed settings a b c plan from kept (inr left) =
    inr (plan.text.items, trimmed_by settings a b c plan plan.text.items from kept left refl)

-- why what was decided is not saved or not printed
pub unsaved : (settings : TrimSettings) (a : Option Files) (plan : Plan) (fault : ToolFault) → Decides settings a (Trim plan) → IsSaveFault fault
    → (fault ≢ WriteFault → settings.dry_run ≡ false)
    → TellsFile (λ name. name ≡ first_touched (map named_file plan.changes.items) (texts plan.removed.items)) fault
    → IfSome a (λ files. IsTrimFault settings files fault)
unsaved settings a plan fault from save saves told = by a from.held
  where
    decided : IsAllowed settings from.queue.config (contents_in from.queue) from.queue.images.items from.decided.floor plan
    decided = from.decided.decided

    by : (o : Option Files) → IfSome o (HoldQueue from.queue) → IfSome o (λ files. IsTrimFault settings files fault)
    by None held = tt
    by (Some files) held = inr (record {
      queue = from.queue;
      opened = record { lawful = from.lawful; held = held; openable = from.openable };
      cause = inr (record {
        saving = save;
        saves = saves;
        floor = from.decided.floor;
        floor_is = from.decided.floor_is;
        allowed = decided.unless_forced;
        changes = map named_file plan.changes.items;
        changes_are = decided.plan_is.changes;
        told = subst (λ (names : List (List ℕ)). TellsFile (λ name. name ≡ first_touched (map named_file plan.changes.items) names) fault)
            decided.plan_is.removed told;
      });
    })

-- a fault of the command's tools that is passed on is what the command came to
pub comes_to : {T : Type 0} (result : Result T TrimFault) (fault : ToolFault) → IsErrAnd result (λ passed. passed ≡ Tool fault)
    → IsErrAnd (outcome_of result) (λ passed. passed ≡ fault)
comes_to (Ok value) fault is = absurd is
comes_to (Err (MessagesLeft name)) fault is = absurd (other name fault is)
  where
    other : (name : String Global) (fault : ToolFault) → MessagesLeft name ≡ Tool fault → ⊥
    other name fault is = cc
comes_to (Err (Tool passed)) fault is = cc

-- how a command ends that was refused by a fault
pub trims_not : (settings : TrimSettings) (before after : Option Files) (old new : Option (List ℕ)) (result : Result (Option (List ℕ)) ToolFault)
    (fault : ToolFault) → IsErrAnd result (λ passed. passed ≡ fault)
    → KeepsOrSaves before after ((text : List ℕ) × IsTrimmed settings before after text) fault → (fault ≢ WriteFault → Keeps old new)
    → (fault ≡ WriteFault → (text : List ℕ) × IsTrimmed settings before after text × AppendsBeginning old new text)
    → Trims settings before after old new result
trims_not settings before after old new (Ok name) fault is left silent broken = absurd is
trims_not settings before after old new (Err passed) fault is left silent broken = record {
  done = tt;
  left = subst (KeepsOrSaves before after ((text : List ℕ) × IsTrimmed settings before after text)) (sym is) left;
  silent = subst (λ (f : ToolFault). f ≢ WriteFault → Keeps old new) (sym is) silent;
  broken = subst (λ (f : ToolFault). f ≡ WriteFault → (text : List ℕ) × IsTrimmed settings before after text × AppendsBeginning old new text) (sym is) broken;
}

-- a name would lose messages
pub trims_none : (settings : TrimSettings) (before after : Option Files) (old : Option (List ℕ)) (name : List ℕ) (decision : Decision)
    → Decides settings before decision → IsRefusal decision name → KeepsFiles before after → IsOutcome settings before after old old (Some name)
trims_none settings before after old name (Trim plan) from is kept = absurd is
trims_none settings before after old name (Refuse loser) from is kept = (
  record {
    queue = from.queue;
    floor = from.decided.floor;
    found = record { lawful = from.lawful; held = from.held; openable = from.openable; floor_is = from.decided.floor_is };
    unforced = from.decided.decided.unforced;
    first = subst (IsFirstLoser from.queue.config (contents_in from.queue) from.decided.floor) is from.decided.decided.first;
  },
  kept,
  Keeps-refl old,
)
