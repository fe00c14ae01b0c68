use Rattle.std.proofs.Common.{ℕ, List, map, subst}
use Rattle.cq_folder.specs.Folder.{named_file}
use Rattle.cq_files.specs.declared.opening.CycleImage.{CycleImage}
use Rattle.cq_files.specs.FolderFaults.{IsEndFault, IsImagesFault}
use Rattle.cq_files.specs.Queue.{HaveEnds}
use Rattle.cq_files.proofs.CountLemmas.{uncounted}
use Rattle.cq_files.proofs.LookingLemmas.{looks_done, looks_passed}
use Rattle.cq_file_commands.proofs.MovingLemmas.{end_not_moved, images_moved}
use Rattle.cq_file_commands.proofs.migrating.moved_images.Goals as goal

pub returns-in_err-images-clause-looks : goal.returns-in_err-images-clause-looks
returns-in_err-images-clause-looks g c =
    let told = c.in_err-images.ensures.looks in
    looks_passed c.from_residual.ensures.1 told.kept told.counted (λ printed. subst IsImagesFault printed told.fault) told.cause

pub returns-in_err-check_ends-clause-looks : goal.returns-in_err-check_ends-clause-looks
returns-in_err-check_ends-clause-looks g c =
    let read = c.in_ok-images.ensures in
    let images = c.in_ok-images.field-0.images.items in
    let fault = c.in_err-check_ends.field-0.0 in
    let ends = subst (λ (all : List CycleImage). IsEndFault all fault) c.as_slice.ensures.value c.in_err-check_ends.ensures.fault in
    looks_passed {T = ℕ} c.from_residual-in_err-check_ends.ensures.1 read.looks.kept
    (uncounted read.looks.counted.later c.in_err-check_ends.ensures.device) (λ printed. subst (IsEndFault images) printed ends)
    (end_not_moved _ c.args.config.now c.args.files.items images fault read.files read.fit read.held ends)

pub returns-clause-moved : goal.returns-clause-moved
returns-clause-moved g c =
    let read = c.in_ok-images.ensures in
    images_moved (g.F.Folder.files c.args.folder.now) c.args.config.now c.args.files.items c.in_ok-images.field-0.images.items
    (map named_file c.in_ok-images.field-0.moved.items) read.files read.made read.fit read.held
    (subst HaveEnds c.as_slice.ensures.value c.in_ok-check_ends.ensures.ends)

pub returns-clause-looks : goal.returns-clause-looks
returns-clause-looks g c = let looks = c.in_ok-images.ensures.looks in looks_done looks.kept looks.counted.later
