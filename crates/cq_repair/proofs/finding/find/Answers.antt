use Rattle.std.proofs.Common.{◌≡◌, ◌∙◌, ℕ, Global, List, ap, arith, sym, subst}
use Rattle.std.specs.Prelude.{Err, IsSomeAnd, Some, String}
use Rattle.cq_config_text.specs.ConfigText.{IsTextOf}
use Rattle.cq_folder.specs.declared.names.TheConstants.{CONFIG_FILE}
use Rattle.cq_files.specs.FolderFaults.{IsFileFault}
use Rattle.cq_files.proofs.CauseLemmas.{cause_there}
use Rattle.cq_files.proofs.CountLemmas.{counts_from, uncounted}
use Rattle.cq_files.proofs.LookingLemmas.{looks_done, looks_passed}
use Rattle.cq_folder.specs.Folder.{is_named}
use Rattle.cq_folder.proofs.NamedLemmas.{file_named, file_unnamed}
use Rattle.cq_files.proofs.QueueLemmas.{keeps-trans, of_before}
use Rattle.cq_files.proofs.RefusingLemmas.{not_opened}
use Rattle.cq_model.specs.Settings.{texts}
use Rattle.cq_text.specs.declared.fault.ToolFault.TheVariants.{NoQueueHere}
use Rattle.cq_repair.specs.Found.{IsOldOrUnread, IsPlaced, IsUnplaced}
use Rattle.cq_repair.proofs.FindLemmas.{IsEntered, not_placed, not_placed_else, not_read, unprinted}
use Rattle.cq_repair.proofs.finding.find.Given as given
use Rattle.cq_repair.proofs.finding.find.Goals as goal
use Rattle.cq_repair.proofs.finding.find.Goals.{After-placed}

-- the folder was entered
entered : (g : given.Over) (c : After-placed g)
    → IsEntered (g.F.Folder.files c.args.folder.now) c.in_ok-saved.saved (texts c.in_ok-names.names.items)
entered g c =
    let saved = c.in_ok-saved.saved in
    let told = c.in_ok-saved.ensures in
    record {
      lawful = told.lawful;
      low = told.low;
      config = of_before _ _ (λ files. IsSomeAnd (files CONFIG_FILE.now) (IsTextOf saved.config saved.positions.items saved.floor))
          c.listed.ensures.enters.kept told.config;
      names = c.in_ok-names.ensures.listed;
    }

pub returns-then-not-has_name-clause-looks : goal.returns-then-not-has_name-clause-looks
returns-then-not-has_name-clause-looks g c = record {
  kept = c.listed.ensures.enters.kept;
  counted = uncounted c.listed.ensures.enters.counted.later (λ device. device);
  fault = unprinted NoQueueHere tt;
  cause = not_opened (IsOldOrUnread c.args.file.now) (g.F.Folder.files c.args.folder.now) c.args.file.now NoQueueHere tt
      (file_unnamed (g.F.Folder.files c.args.folder.now) c.in_ok-names.names.items CONFIG_FILE.now c.in_ok-names.ensures.listed
      (ap (λ (names : List (String Global)). is_named names CONFIG_FILE.now) (sym c.as_slice.ensures.value)
      ∙ (sym c.has_name.ensures ∙ c.if-not-has_name.true)));
}

pub returns-in_err-saved-clause-looks : goal.returns-in_err-saved-clause-looks
returns-in_err-saved-clause-looks g c =
    let before = g.F.Folder.files c.args.folder.now in
    let fault = c.in_err-saved.field-0.0 in
    let told = c.in_err-saved.ensures in
    looks_passed c.from_residual-in_err-saved.ensures.1 (keeps-trans _ _ _ c.listed.ensures.enters.kept told.stays.kept)
    (counts_from _ _ _ (Err fault) c.listed.ensures.enters.counted.later told.stays.counted) (unprinted fault told.first)
    (not_opened (IsOldOrUnread c.args.file.now) before c.args.file.now fault told.first
    (cause_there before (g.F.Folder.files c.listed.new.folder) fault c.listed.ensures.enters.kept
    (file_named before c.in_ok-names.names.items CONFIG_FILE.now c.in_ok-names.ensures.listed
    (ap (λ (names : List (String Global)). is_named names CONFIG_FILE.now) (sym c.as_slice.ensures.value)
    ∙ (sym c.has_name.ensures ∙ c.if-not-has_name.false)))
    told.cause))

pub returns-in_err-cycle-clause-looks : goal.returns-in_err-cycle-clause-looks
returns-in_err-cycle-clause-looks g c =
    let file = c.args.file.now in
    let fault = c.in_err-cycle.field-0.0 in
    let saved = c.in_ok-saved.saved in
    let why = subst (λ (names : List (String Global)). IsUnplaced saved.config (texts names) file fault) c.as_slice-2.ensures.value c.in_err-cycle.ensures.fault in
    let other = not_placed_else _ _ file fault why in
    looks_passed c.from_residual-in_err-cycle.ensures.1 (keeps-trans _ _ _ c.listed.ensures.enters.kept c.read_saved.ensures.stays.kept)
    (uncounted {T = ℕ} (omega (arith, c.listed.ensures.enters.counted.later, c.read_saved.ensures.stays.counted.later)) other.1) other.0
    (not_placed _ file fault (entered g (goal.at.returns-in_err-cycle-clause-looks g c).After-placed) why)

pub returns-in_err-bytes-clause-looks : goal.returns-in_err-bytes-clause-looks
returns-in_err-bytes-clause-looks g c =
    let file = c.args.file.now in
    let fault = c.in_err-bytes.field-0.0 in
    let saved = c.in_ok-saved.saved in
    let told = c.in_err-bytes.ensures in
    let kept = keeps-trans _ _ _ c.listed.ensures.enters.kept c.read_saved.ensures.stays.kept in
    let placed = subst (λ (names : List (String Global)). IsPlaced saved.config (texts names) file c.in_ok-cycle.cycle) c.as_slice-2.ensures.value c.in_ok-cycle.ensures.placed in
    looks_passed c.from_residual-in_err-bytes.ensures.1 (keeps-trans _ _ _ kept told.stays.kept)
    (counts_from _ _ _ (Err fault) (omega (arith, c.listed.ensures.enters.counted.later, c.read_saved.ensures.stays.counted.later)) told.stays.counted)
    (λ printed. subst (IsFileFault file) printed told.fault)
    (not_read _ _ file c.in_ok-cycle.cycle fault kept (entered g (goal.at.returns-in_err-bytes-clause-looks g c).After-placed) placed told.fault told.cause)

pub returns-clause-found : goal.returns-clause-found
returns-clause-found g c =
    let into = entered g (goal.at.returns-clause-found g c).After-placed in
    let saved = c.in_ok-saved.saved in
    record {
      lawful = into.lawful;
      paired = c.in_ok-saved.ensures.paired;
      low = into.low;
      config = into.config;
      names = into.names;
      placed = subst (λ (names : List (String Global)). IsPlaced saved.config (texts names) c.args.file.now c.in_ok-cycle.cycle) c.as_slice-2.ensures.value c.in_ok-cycle.ensures.placed;
      held = of_before _ _ (λ files. files c.args.file.now ≡ Some c.in_ok-bytes.bytes.items)
          (keeps-trans _ _ _ c.listed.ensures.enters.kept c.read_saved.ensures.stays.kept) c.in_ok-bytes.ensures.held;
      small = c.in_ok-bytes.ensures.small;
    }

pub returns-clause-looks : goal.returns-clause-looks
returns-clause-looks g c =
    looks_done (keeps-trans _ _ _ c.listed.ensures.enters.kept (keeps-trans _ _ _ c.read_saved.ensures.stays.kept c.read_file.ensures.stays.kept))
    (omega (arith, c.listed.ensures.enters.counted.later, c.read_saved.ensures.stays.counted.later, c.read_file.ensures.stays.counted.later))
