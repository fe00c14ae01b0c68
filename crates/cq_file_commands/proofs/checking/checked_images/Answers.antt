use Rattle.std.proofs.Common.{ℕ, List, subst, sym}
use Rattle.std.specs.Prelude.{IfSome}
use Rattle.cq_model.specs.Settings.{texts}
use Rattle.cq_files.specs.declared.opening.ImageFile.{ImageFile}
use Rattle.cq_files.specs.FolderFaults.{IsSmall}
use Rattle.cq_files.specs.Queue.{AreImageFiles}
use Rattle.cq_files.proofs.CauseLemmas.{looking_folder}
use Rattle.cq_file_commands.proofs.CheckLemmas.{is_checked}
use Rattle.cq_files.proofs.OrderLemmas.{all_files}
use Rattle.cq_files.proofs.CountLemmas.{uncounted}
use Rattle.cq_files.proofs.LookingLemmas.{looks_after, looks_passed}
use Rattle.cq_files.proofs.OrderLemmas.{folder_fault, naming_fault, reading_fault}
use Rattle.cq_file_commands.proofs.checking.checked_images.Goals as goal

pub returns-clause-checked : goal.returns-clause-checked
returns-clause-checked g c =
    let opened = c.in_ok-saved.ensures in
    is_checked (g.F.Folder.files c.args.folder.now) (g.F.Folder.files c.open_folder.new.folder) c.in_ok-files.files.items c.as_slice.result.now
    c.check_files.result opened.looks.kept opened.opened c.in_ok-files.ensures.named c.in_ok-files.ensures.same c.as_slice.ensures.value
    c.check_files.ensures.text c.check_files.ensures.faulty c.check_files.ensures.small

pub returns-in_err-saved-clause-looks : goal.returns-in_err-saved-clause-looks
returns-in_err-saved-clause-looks g c =
    let told = c.in_err-saved.ensures.looks in
    looks_passed c.from_residual.ensures.1 told.kept told.counted (looking_folder _ told.fault) (folder_fault IsSmall _ _ told.cause told.fault)

pub returns-in_err-files-clause-looks : goal.returns-in_err-files-clause-looks
returns-in_err-files-clause-looks g c =
    let opened = c.in_ok-saved.ensures in
    let told = c.in_err-files.ensures in
    looks_passed c.from_residual-in_err-files.ensures.1 opened.looks.kept (uncounted {T = ℕ} opened.looks.counted.later told.device) told.fault
    (naming_fault IsSmall _ _ opened.opened told.cause told.first)

pub returns-clause-looks : goal.returns-clause-looks
returns-clause-looks g c =
    let before = g.F.Folder.files c.args.folder.now in
    let saved = c.in_ok-saved.field-0.saved in
    let opened = c.in_ok-saved.ensures in
    let are = subst (λ (images : List ImageFile). IfSome before (AreImageFiles saved.config images)) (sym c.as_slice.ensures.value)
    (all_files before saved.config c.in_ok-files.files.items (texts c.in_ok-saved.field-0.image_names.items) c.in_ok-files.ensures.named
    c.in_ok-files.ensures.same opened.opened.images) in
    looks_after c.check_files.result opened.looks.kept opened.looks.counted.later
    (λ fault. reading_fault IsSmall before (g.F.Folder.files c.open_folder.new.folder) c.as_slice.result.now fault opened.looks.kept opened.opened are)
    c.check_files.ensures.looks
