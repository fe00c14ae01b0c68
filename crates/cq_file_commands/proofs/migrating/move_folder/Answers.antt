use Rattle.std.proofs.Common.{List, map, subst, sym}
use Rattle.std.proofs.lemmas.Result.{on_ok_weaker}
use Rattle.std.specs.Prelude.{IfSome}
use Rattle.cq_model.specs.Settings.{texts}
use Rattle.cq_folder.specs.Folder.{named_file}
use Rattle.cq_folder.specs.declared.storage.NewFile.{NewFile}
use Rattle.cq_file_commands.specs.Migrated.{AreMovedFiles}
use Rattle.cq_files.specs.Queue.{ListsImages}
use Rattle.cq_file_commands.proofs.MovingLemmas.{moves_files, save_not_moved, tells_moving}
use Rattle.cq_files.proofs.WritingLemmas.{in_any_case, left_after, left_by_save, still_kept}
use Rattle.cq_file_commands.proofs.migrating.move_folder.Given as given
use Rattle.cq_file_commands.proofs.migrating.move_folder.Goals as goal
use Rattle.cq_file_commands.proofs.migrating.move_folder.Goals.{After-as_slice}

-- what is saved are the files in version 2
are_moved : (g : given.Over) (c : After-as_slice g)
    → IfSome (g.F.Folder.files c.args.folder.now) (λ files. ListsImages (texts c.args.image_names.items) files
    → AreMovedFiles c.args.saved.now files (map named_file c.as_slice.result.now))
are_moved g c =
    let Are : List NewFile → Type 0 = λ moved. IfSome (g.F.Folder.files c.args.folder.now) (λ files. ListsImages (texts c.args.image_names.items) files
    → AreMovedFiles c.args.saved.now files (map named_file moved)) in
    subst Are (sym c.as_slice.ensures.value) c.in_ok-moved.ensures.moved

pub returns-clause-moved : goal.returns-clause-moved
returns-clause-moved g c =
    let are = are_moved g (goal.at.returns-clause-moved g c).After-as_slice in
    on_ok_weaker c.save_files.result (λ written. moves_files _ _ are c.moved_files.ensures.looks.kept written) c.save_files.ensures.written

pub returns-clause-left : goal.returns-clause-left
returns-clause-left g c =
    let are = are_moved g (goal.at.returns-clause-left g c).After-as_slice in
    let kept = c.moved_files.ensures.looks.kept in
    let told = c.save_files.ensures in
    left_after c.save_files.result _ _ _ _ _ kept (moves_files _ _ are kept)
    (left_by_save c.save_files.result _ _ _ told.save told.scarce told.whole)

pub returns-clause-cause : goal.returns-clause-cause
returns-clause-cause g c =
    let told = c.save_files.ensures in
    save_not_moved _ _ _ _ c.save_files.result (are_moved g (goal.at.returns-clause-cause g c).After-as_slice) told.save told.first told.unprinted

pub returns-clause-told : goal.returns-clause-told
returns-clause-told g c =
    let told = c.save_files.ensures in
    tells_moving c.save_files.result _ _ _ _ _ _ (are_moved g (goal.at.returns-clause-told g c).After-as_slice) c.moved_files.ensures.looks.kept
    told.whole told.first

pub returns-in_err-moved-clause-left : goal.returns-in_err-moved-clause-left
returns-in_err-moved-clause-left g c = still_kept c.from_residual.result _ _ _ c.moved_files.ensures.looks.kept

pub returns-in_err-moved-clause-told : goal.returns-in_err-moved-clause-told
returns-in_err-moved-clause-told g c = in_any_case c.from_residual.result _ _ c.moved_files.ensures.looks.kept
