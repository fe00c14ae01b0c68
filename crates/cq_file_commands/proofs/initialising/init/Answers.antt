use Rattle.std.proofs.Common.{rules}
use Rattle.std.proofs.lemmas.Result.{on_ok_weaker}
use Rattle.cq_folder.specs.Folder.{WritesFile}
use Rattle.cq_folder.specs.declared.names.TheConstants.{CONFIG_FILE}
use Rattle.cq_file_commands.specs.Initialised.{IsInitialText}
use Rattle.cq_files.proofs.QueueLemmas.{keeps-refl}
use Rattle.cq_files.proofs.WritingLemmas.{kept_then_wrote, left_after, left_by_save, still_kept}
use Rattle.cq_files.proofs.CountLemmas.{counts_from, counts_passed}
use Rattle.cq_file_commands.proofs.initialising.init.Goals as goal

pub returns-clause-left : goal.returns-clause-left
returns-clause-left g c =
    let made : IsInitialText c.args.settings.now c.as_slice.result.now = search rules in
    let kept = c.in_ok-check_new.ensures.enters.kept in
    let told = c.write_file.ensures in
    left_after c.write_file.result _ _ _ (WritesFile _ _ CONFIG_FILE.now c.as_slice.result.now) _ kept
    (λ written. (c.as_slice.result.now, made, kept_then_wrote _ _ _ CONFIG_FILE.now _ kept written))
    (left_by_save c.write_file.result _ _ _ told.save told.scarce told.whole)

pub returns-in_err-roll-clause-left : goal.returns-in_err-roll-clause-left
returns-in_err-roll-clause-left g c = still_kept c.from_residual.result _ _ _ (keeps-refl (g.F.Folder.files c.args.folder.now))

pub returns-in_err-check_new-clause-left : goal.returns-in_err-check_new-clause-left
returns-in_err-check_new-clause-left g c = still_kept c.from_residual-in_err-check_new.result _ _ _ c.check_new.ensures.enters.kept

pub returns-in_err-text-clause-left : goal.returns-in_err-text-clause-left
returns-in_err-text-clause-left g c = still_kept c.from_residual-in_err-text.result _ _ _ c.check_new.ensures.enters.kept

pub returns-clause-written : goal.returns-clause-written
returns-clause-written g c =
    let made : IsInitialText c.args.settings.now c.as_slice.result.now = search rules in
    on_ok_weaker c.write_file.result
    (λ written. (c.as_slice.result.now, made, kept_then_wrote _ _ _ CONFIG_FILE.now _ c.in_ok-check_new.ensures.enters.kept written))
    c.write_file.ensures.written

pub returns-clause-counted : goal.returns-clause-counted
returns-clause-counted g c =
    counts_from _ _ _ c.write_file.result c.check_new.ensures.enters.counted.later c.write_file.ensures.counted

pub returns-in_err-check_new-clause-counted : goal.returns-in_err-check_new-clause-counted
returns-in_err-check_new-clause-counted g c =
    counts_passed _ _ c.in_err-check_new.field-0.0 c.from_residual-in_err-check_new.result c.in_err-check_new.ensures.enters.counted
    c.from_residual-in_err-check_new.ensures.1
