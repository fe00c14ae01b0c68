-- How a command ends that repairs an image.
use Rattle.std.proofs.Common.{◌≡◌, ◌≢◌, ◌⊎◌, ◌∙◌, ℕ, Bool, true, false, List, [], ◌∷◌, ap, inl, inr, map, refl, subst, sym}
use Rattle.std.specs.Io.KnownBytes.{Keeps}
use Rattle.std.specs.Prelude.{Contains, Option, None, Some, IfErr, IfOk, IfSome, IsErrAnd, IsSome, IsSomeAnd, IsTrue, OnErr, Result, Ok, Err}
use Rattle.cq_folder.specs.Folder.{Files, KeepsFiles, KeepsOrWrites, ListsFiles, NamedFile, WritesFiles, named_file}
use Rattle.cq_files.specs.FolderFaults.{IsShowFault}
use Rattle.cq_files.proofs.QueueLemmas.{keeps-trans, of_before}
use Rattle.cq_files.proofs.WritingLemmas.{kept_then_written}
use Rattle.cq_model.specs.Settings.{texts}
use Rattle.cq_text.specs.Output.{AppendsBeginning}
use Rattle.cq_text.specs.declared.fault.ToolFault.{ToolFault}
use Rattle.cq_text.specs.declared.fault.ToolFault.TheVariants.{FileFault, OutOfMemory, WriteFault}
use Rattle.cq_files.specs.Saved.{first_file}
use Rattle.cq_repair.specs.Found.{IsFound, IsOldOrUnread}
use Rattle.cq_repair.specs.Kept.{AreChanges, both, image, old_file}
use Rattle.cq_repair.specs.Plans.{Decides, HasOther, IsCutShort, IsPlanCutShort, IsPlanned, IsUndecided, IsUnlessTaken, IsUnread, Leaves, writes_of}
use Rattle.cq_repair.specs.Repairs.{IsRepairFault, IsRepaired, Repairs, outcome_of}
use Rattle.cq_repair.specs.declared.deciding.Decision.{Decision}
use Rattle.cq_repair.specs.declared.deciding.Decision.TheVariants.{Refuse, Repair}
use Rattle.cq_repair.specs.declared.fault.RepairFault.{RepairFault}
use Rattle.cq_repair.specs.declared.fault.RepairFault.TheVariants.{Refused, Tool}
use Rattle.cq_repair.specs.declared.fault.RepairRefusal.{RepairRefusal}
use Rattle.cq_repair.specs.declared.fault.RepairRefusal.TheVariants.{NoFault, ThereAlready}
use Rattle.cq_repair.specs.declared.finding.Found.{Found}
use Rattle.cq_repair.specs.declared.planning.Plan.{Plan}

-- a file that is not listed has no other bytes
free_unlisted : (a : Option Files) (names : List (List ℕ)) (file : NamedFile) → IfSome a (ListsFiles names) → ¬ Contains names file.0
    → IfSome a (λ held. ¬ HasOther file held)
free_unlisted None names file lists none = tt
free_unlisted (Some a) names file lists none = λ other. none (lists.whole file.0 (there (a file.0) other))
  where
    there : (held : Option (List ℕ)) → IsSomeAnd held (λ bytes. bytes ≢ file.1) → IsSome held
    there None other = absurd other
    there (Some bytes) other = refl

-- where a plan is not taken, or no file has other bytes, its image may be repaired
free_for : (dry : Bool) (file : List ℕ) (a b : Option Files) (found : Found) (plan : Plan) → KeepsFiles a b → IsFound file a found
    → IsPlanned dry file found plan → (IsTrue plan.is_taken → IfSome b (λ held. ¬ HasOther (named_file plan.old) held)) → (taken : Bool)
    → plan.is_taken ≡ taken → IfSome a (λ held. ¬ HasOther (old_file file found) held)
free_for dry file a b found plan kept is planned free true same =
    subst (λ (old : NamedFile). IfSome a (λ held. ¬ HasOther old held)) planned.old
    (of_before a b (λ held. ¬ HasOther (named_file plan.old) held) kept (free same))
free_for dry file a b found plan kept is planned free false same =
    free_unlisted a (texts found.names.items) (old_file file found) is.names (λ listed. clash (sym same ∙ planned.taken.1 listed))
  where
    clash : false ≡ true → ⊥
    clash other = cc

-- what is decided of a plan is decided of the image
pub decides_unless_taken : (dry : Bool) (file : List ℕ) (a b : Option Files) (found : Found) (plan : Plan) (result : Result Decision ToolFault)
    → KeepsFiles a b → IsFound file a found → IsPlanned dry file found plan → IfOk result (IsUnlessTaken plan b) → IfOk result (Decides dry file a)
decides_unless_taken dry file a b found plan (Err fault) kept is planned decided = tt
decides_unless_taken dry file a b found plan (Ok (Repair planned_as)) kept is planned decided = (
  found,
  record { is_found = is; faulty = planned.faulty; free = free_for dry file a b found plan kept is planned decided.1 plan.is_taken refl },
  subst (IsPlanned dry file found) (sym decided.0) planned,
)
decides_unless_taken dry file a b found plan (Ok (Refuse (ThereAlready name))) kept is planned decided = (
  found,
  is,
  planned.faulty,
  subst (λ (old : NamedFile). IfSome a (HasOther old)) planned.old (of_before a b (HasOther (named_file plan.old)) kept decided.1),
  decided.0 ∙ ap (λ (old : NamedFile). old.0) planned.old,
)
decides_unless_taken dry file a b found plan (Ok (Refuse (NoFault name))) kept is planned decided = absurd decided

-- an image that is not found is not decided
pub not_found : (file : List ℕ) (a : Option Files) (fault : ToolFault) → IfSome a (λ files. IsShowFault (IsOldOrUnread file) file files fault)
    → IfSome a (λ files. IsUndecided file files fault)
not_found file None fault why = tt
not_found file (Some a) fault why = inl why

-- nor is one for which memory runs out
pub scarce : (file : List ℕ) (a : Option Files) → IfSome a (λ files. IsUndecided file files OutOfMemory)
scarce file None = tt
scarce file (Some a) = inl (inl (tt, tt))

-- these causes are not that the writer failed
pub unprinted : {T : Type 0} (file : List ℕ) (result : Result T ToolFault) → IfErr result (λ fault. (fault ≡ OutOfMemory) ⊎ IsUnread file fault)
    → IfErr result (λ fault. fault ≢ WriteFault)
unprinted file (Ok value) why = tt
unprinted file (Err fault) (inl no_room) = λ is. cc
unprinted file (Err fault) (inr unread) = λ is. subst (IsUnread file) is unread

-- why it is not decided: memory that runs out is among the first causes
pub unjudged : (dry : Bool) (file : List ℕ) (a : Option Files) (found : Found) (plan : Plan) (fault : ToolFault) → IsFound file a found
    → IsPlanned dry file found plan → IsTrue plan.is_taken → (fault ≡ OutOfMemory) ⊎ IsUnread (named_file plan.old).0 fault
    → IfSome a (λ files. IsUndecided file files fault)
unjudged dry file None found plan fault is planned taken why = tt
unjudged dry file (Some a) found plan fault is planned taken (inl scarce) = subst (IsUndecided file a) (sym scarce) (inl (inl (tt, tt)))
unjudged dry file (Some a) found plan fault is planned taken (inr unread) = inr (record {
  found = found;
  is_found = is;
  faulty = planned.faulty;
  taken = planned.taken.0 taken;
  unread = subst (λ (old : NamedFile). IsUnread old.0 fault) planned.old unread;
})

-- so it is, whatever the end of the call
pub undecided : {T : Type 0} (dry : Bool) (file : List ℕ) (a : Option Files) (found : Found) (plan : Plan) (result : Result T ToolFault) → IsFound file a found
    → IsPlanned dry file found plan → OnErr result (IsTrue plan.is_taken)
    → IfErr result (λ fault. (fault ≡ OutOfMemory) ⊎ IsUnread (named_file plan.old).0 fault)
    → IfErr result (λ fault. IfSome a (λ files. IsUndecided file files fault))
undecided dry file a found plan (Ok value) is planned taken why = tt
undecided dry file a found plan (Err fault) is planned taken why = unjudged dry file a found plan fault is planned taken why

-- all that is written, as the plan says it
all_written : (dry : Bool) (file : List ℕ) (a c : Option Files) (found : Found) (plan : Plan) → IsPlanned dry file found plan
    → Leaves dry (writes_of plan) a c → Leaves dry (old_file file found ∷ map named_file plan.changes.items) a c
all_written dry file a c found plan planned left =
    subst (λ (old : NamedFile). Leaves dry (old ∷ map named_file plan.changes.items) a c) planned.old left

kept_then_left : (dry : Bool) (a b c : Option Files) (writes : List NamedFile) → KeepsFiles a b → Leaves dry writes b c → Leaves dry writes a c
kept_then_left true a b c writes kept same = keeps-trans a b c kept same
kept_then_left false a b c writes kept done = kept_then_written a b c writes kept done

-- what was decided, and the files that it left
pub repaired_by : (dry : Bool) (file : List ℕ) (a b c : Option Files) (plan : Plan) (text : List ℕ) → Decides dry file a (Repair plan) → KeepsFiles a b
    → Leaves dry (writes_of plan) b c → text ≡ plan.text.items → IsRepaired dry file a c text
repaired_by dry file a b c plan text (found, mendable, planned) kept left text_is = record {
  found = found;
  mendable = mendable;
  ended = planned.ended;
  ended_is = planned.ended_is;
  changes = map named_file plan.changes.items;
  changes_are = planned.changes;
  fit = planned.fit;
  left = kept_then_left dry a b c _ kept (all_written dry file b c found plan planned left);
  text_is = text_is ∙ planned.text;
}

-- the first change is the image
first_change : (file : List ℕ) (ended : Bool) (found : Found) (changes : List NamedFile) → AreChanges file ended found changes
    → first_file [] changes ≡ file
first_change file ended found changes (image same is) = ap (first_file []) is
first_change file ended found changes (both text moved spelled is) = ap (first_file []) is

-- the same after calls that keep all files
kept_or_wrote : (a b c : Option Files) (writes : List NamedFile) → KeepsFiles a b → KeepsOrWrites b c writes → KeepsOrWrites a c writes
kept_or_wrote a b c writes kept (inl same) = inl (keeps-trans a b c kept same)
kept_or_wrote a b c writes kept (inr wrote) = inr (kept_then_written a b c writes kept wrote)

cut_after : (fault : ToolFault) (a b c : Option Files) (old : NamedFile) (first : List ℕ) (All Done : Type 0) → KeepsFiles a b → (All → Done)
    → IsCutShort old first All b c fault → IsCutShort old first Done a c fault
cut_after OutOfMemory a b c old first All Done kept done cut = kept_or_wrote a b c (old ∷ []) kept cut
cut_after (FileFault name) a b c old first All Done kept done (inl (named, left)) = inl (named, kept_or_wrote a b c (old ∷ []) kept left)
cut_after (FileFault name) a b c old first All Done kept done (inr (named, inl wrote)) =
    inr (named, inl (kept_then_written a b c (old ∷ []) kept wrote))
cut_after (FileFault name) a b c old first All Done kept done (inr (named, inr all)) = inr (named, inr (done all))
cut_after _ a b c old first All Done kept done cut = absurd cut

-- what was decided is not saved
pub unsaved : (dry : Bool) (file : List ℕ) (a b c : Option Files) (plan : Plan) (fault : ToolFault) → Decides dry file a (Repair plan)
    → KeepsFiles a b → dry ≡ false → IsPlanCutShort plan b c fault → IfSome a (λ files. IsRepairFault dry file files c fault)
unsaved dry file None b c plan fault decided kept wet cut = tt
unsaved dry file (Some a) b c plan fault (found, mendable, planned) kept wet cut = inr (record {
  found = found;
  mendable = mendable;
  left = inr (
    wet,
    subst (λ (named : List ℕ). IsCutShort (old_file file found) named Done (Some a) c fault) (first_change file planned.ended found _ planned.changes)
        (subst (λ (old : NamedFile). IsCutShort old first Done (Some a) c fault) planned.old
        (cut_after fault (Some a) b c (named_file plan.old) first (WritesFiles b c (writes_of plan)) Done kept by cut)),
  );
})
  where
    first : List ℕ
    first = first_file [] (map named_file plan.changes.items)

    Done : Type 0
    Done = (text : List ℕ) × IsRepaired false file (Some a) c text

    by : WritesFiles b c (writes_of plan) → Done
    by all = (
      plan.text.items,
      repaired_by false file (Some a) b c plan plan.text.items (subst (λ (d : Bool). Decides d file (Some a) (Repair plan)) wet (found, mendable, planned)) kept all refl,
    )

-- what was decided is saved and not printed
pub not_printed : (dry : Bool) (file : List ℕ) (a c : Option Files) (plan : Plan) (fault : ToolFault) → Decides dry file a (Repair plan)
    → fault ≡ WriteFault → IfSome a (λ files. IsRepairFault dry file files c fault)
not_printed dry file None c plan fault decided written = tt
not_printed dry file (Some a) c plan fault (found, mendable, planned) written =
    inr (record { found = found; mendable = mendable; left = inl written })

-- nothing is decided
pub undone : (dry : Bool) (file : List ℕ) (a b : Option Files) (fault : ToolFault) → KeepsFiles a b
    → IfSome a (λ files. IsUndecided file files fault) → IfSome a (λ files. IsRepairFault dry file files b fault)
undone dry file None b fault kept cause = tt
undone dry file (Some a) b fault kept cause = inl (cause, kept)

-- a fault of the command's tools that is passed on is what the command came to
pub comes_to : {T : Type 0} (result : Result T RepairFault) (fault : ToolFault) → IsErrAnd result (λ passed. passed ≡ Tool fault)
    → IsErrAnd (outcome_of result) (λ passed. passed ≡ fault)
comes_to (Ok value) fault is = absurd is
comes_to (Err (Refused refusal)) fault is = absurd (other refusal fault is)
  where
    other : (refusal : RepairRefusal) (fault : ToolFault) → Refused refusal ≡ Tool fault → ⊥
    other refusal fault is = cc
comes_to (Err (Tool passed)) fault is = cc

-- how a command ends that was refused by a fault
pub repairs_not : (dry : Bool) (file : List ℕ) (before after : Option Files) (old new : Option (List ℕ))
    (result : Result (Option RepairRefusal) ToolFault) (fault : ToolFault) → IsErrAnd result (λ passed. passed ≡ fault)
    → (fault ≢ WriteFault → Keeps old new)
    → (fault ≡ WriteFault → (text : List ℕ) × IsRepaired dry file before after text × AppendsBeginning old new text)
    → Repairs dry file before after old new result
repairs_not dry file before after old new (Ok outcome) fault is silent broken = absurd is
repairs_not dry file before after old new (Err passed) fault is silent broken = record {
  done = tt;
  silent = subst (λ (f : ToolFault). f ≢ WriteFault → Keeps old new) (sym is) silent;
  broken = subst (λ (f : ToolFault). f ≡ WriteFault → (text : List ℕ) × IsRepaired dry file before after text × AppendsBeginning old new text) (sym is) broken;
}
