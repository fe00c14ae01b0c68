use Rattle.std.proofs.Common.{◌≡◌, ℕ, Global, List, arith, subst}
use Rattle.std.specs.Prelude.{Err, Some, String}
use Rattle.cq_model.specs.Settings.{texts}
use Rattle.cq_files.specs.FolderFaults.{IsFileFault, IsFolderFault, IsGivingFault, IsUnreadFault}
use Rattle.cq_file_commands.specs.Shown.{IsGivenFile}
use Rattle.cq_files.proofs.CauseLemmas.{unread_opened}
use Rattle.cq_files.proofs.CountLemmas.{counts_from, uncounted}
use Rattle.cq_files.proofs.LookingLemmas.{looks_done, looks_passed}
use Rattle.cq_files.proofs.QueueLemmas.{keeps-trans, of_before}
use Rattle.cq_files.proofs.RefusingLemmas.{not_opened}
use Rattle.cq_file_commands.proofs.ShownLemmas.{given_refused, not_given, not_given_else}
use Rattle.cq_file_commands.proofs.given.read_given.Given as given
use Rattle.cq_file_commands.proofs.given.read_given.Goals as goal
use Rattle.cq_file_commands.proofs.given.read_given.Goals.{After-read_file}

-- the file that was found is one of the images
found : (g : given.Over) (c : After-read_file g)
    → IsGivenFile c.in_ok-saved.field-0.saved.config (texts c.in_ok-saved.field-0.image_names.items) c.args.file.now c.in_ok-image.image
found g c =
    subst (λ (names : List (String Global)). IsGivenFile c.in_ok-saved.field-0.saved.config (texts names) c.args.file.now c.in_ok-image.image)
    c.as_slice.ensures.value c.in_ok-image.ensures.given

pub returns-in_err-saved-clause-looks : goal.returns-in_err-saved-clause-looks
returns-in_err-saved-clause-looks g c =
    let told = c.in_err-saved.ensures.looks in
    looks_passed c.from_residual.ensures.1 told.kept told.counted (λ printed. subst IsFolderFault printed told.fault)
    (not_opened (IsUnreadFault c.args.file.now) _ c.args.file.now _ told.fault told.cause)

pub returns-in_err-image-clause-looks : goal.returns-in_err-image-clause-looks
returns-in_err-image-clause-looks g c =
    let opened = c.in_ok-saved.ensures in
    let file = c.args.file.now in
    let fault = c.in_err-image.field-0.0 in
    let why = subst (λ (names : List (String Global)). IsGivingFault c.in_ok-saved.field-0.saved.config (texts names) file fault)
    c.as_slice.ensures.value c.in_err-image.ensures.fault in
    let other = not_given_else _ _ file fault why in
    looks_passed c.from_residual-in_err-image.ensures.1 opened.looks.kept (uncounted {T = ℕ} opened.looks.counted.later other.1) other.0
    (not_given (IsUnreadFault file) _ file fault opened.opened why)

pub returns-in_err-bytes-clause-looks : goal.returns-in_err-bytes-clause-looks
returns-in_err-bytes-clause-looks g c =
    let opened = c.in_ok-saved.ensures in
    let file = c.args.file.now in
    let fault = c.in_err-bytes.field-0.0 in
    let told = c.in_err-bytes.ensures in
    let image = found g (goal.at.returns-in_err-bytes-clause-looks g c).After-read_file in
    looks_passed c.from_residual-in_err-bytes.ensures.1 (keeps-trans _ _ _ opened.looks.kept told.stays.kept)
    (counts_from _ _ _ (Err fault) opened.looks.counted.later told.stays.counted) (λ printed. subst (IsFileFault file) printed told.fault)
    (given_refused (IsUnreadFault file) _ file _ fault opened.opened image.listed image.named
    (unread_opened _ _ file fault opened.looks.kept opened.opened told.fault told.cause))

pub returns-clause-given : goal.returns-clause-given
returns-clause-given g c =
    let opened = c.in_ok-saved.ensures in
    let held = c.in_ok-bytes.ensures in
    record {
      names = texts c.in_ok-saved.field-0.image_names.items;
      opened = opened.opened;
      image = found g (goal.at.returns-clause-given g c).After-read_file;
      held = of_before _ _ (λ files. files c.args.file.now ≡ Some c.in_ok-bytes.bytes.items) opened.looks.kept held.held;
      small = held.small;
    }

pub returns-clause-looks : goal.returns-clause-looks
returns-clause-looks g c =
    let opened = c.in_ok-saved.ensures.looks in
    let held = c.in_ok-bytes.ensures in
    looks_done (keeps-trans _ _ _ opened.kept held.stays.kept) (omega (arith, opened.counted.later, held.stays.counted.later))
