use Rattle.std.proofs.Common.{◌≡◌, inl, inr, map, refl, subst, sym, ◌∙◌}
use Rattle.std.proofs.KnownBytes.{Keeps-refl}
use Rattle.std.specs.Prelude.{Err, Option}
use Rattle.cq_files.proofs.CountLemmas.{counts_from, counts_passed}
use Rattle.cq_files.proofs.QueueLemmas.{keeps-trans}
use Rattle.cq_folder.specs.Folder.{Files, named_file}
use Rattle.cq_model.specs.Settings.{texts}
use Rattle.cq_text.proofs.FaultLemmas.{passed_on}
use Rattle.cq_text.specs.declared.fault.ToolFault.TheVariants.{OutOfMemory, WriteFault}
use Rattle.cq_files.specs.FolderFaults.{IsSaveFault, TellsFile}
use Rattle.cq_trim.proofs.EndLemmas.{comes_to, kept_or_trimmed, trimmed_by, trims_none, trims_not, undone, unsaved}
use Rattle.cq_files.proofs.RefusingLemmas.{minds_passed, minds_second}
use Rattle.cq_trim.specs.Plans.{Decides}
use Rattle.cq_trim.specs.Trimmed.{Leaves, first_touched}
use Rattle.cq_trim.specs.Trims.{outcome_of}
use Rattle.cq_trim.proofs.trimming.trim.Goals as goal

pub returns-in_err-name-clause-cause : goal.returns-in_err-name-clause-cause
returns-in_err-name-clause-cause g c =
    passed_on (outcome_of c.from_residual.result) _ _ (comes_to c.from_residual.result _ c.from_residual.ensures.1) (undone (g.F.Folder.files c.args.folder.now) c.args.settings.now _ c.in_err-name.ensures.cause)

pub returns-in_err-carry_out-in-Trim-clause-trims : goal.returns-in_err-carry_out-in-Trim-clause-trims
returns-in_err-carry_out-in-Trim-clause-trims g c =
    let files = g.F.Folder.files in
    let settings = c.args.settings.now in
    let old = g.W.Write.contents c.args.output.now in
    let from = subst (Decides settings (files c.args.folder.now)) c.in-Trim.is c.in_ok-name.ensures.decides in
    let kept = c.in_ok-name.ensures.enters.kept in
    let failed = c.in_err-carry_out-in-Trim.ensures in
    trims_not settings (files c.args.folder.now) (files c.carry_out.new.folder) old old (outcome_of c.from_residual-in_err-carry_out-in-Trim.result) _ (comes_to c.from_residual-in_err-carry_out-in-Trim.result _ c.from_residual-in_err-carry_out-in-Trim.ensures.1)
    (record {
      unsaved = λ other. absurd (other failed.save);
      scarce = λ memory. keeps-trans (files c.args.folder.now) (files c.decide.new.folder) (files c.carry_out.new.folder) kept (failed.scarce memory);
      whole = kept_or_trimmed settings (files c.args.folder.now) (files c.decide.new.folder) (files c.carry_out.new.folder) c.in-Trim.plan from kept failed.whole;
    })
    (λ unwritten. Keeps-refl old)
    (λ written. absurd (failed.unprinted written))

pub returns-in_err-carry_out-in-Trim-clause-cause : goal.returns-in_err-carry_out-in-Trim-clause-cause
returns-in_err-carry_out-in-Trim-clause-cause g c =
    let files = g.F.Folder.files in
    let settings = c.args.settings.now in
    let from = subst (Decides settings (files c.args.folder.now)) c.in-Trim.is c.in_ok-name.ensures.decides in
    let failed = c.in_err-carry_out-in-Trim.ensures in
    passed_on (outcome_of c.from_residual-in_err-carry_out-in-Trim.result) _ _ (comes_to c.from_residual-in_err-carry_out-in-Trim.result _ c.from_residual-in_err-carry_out-in-Trim.ensures.1)
    (unsaved settings (files c.args.folder.now) c.in-Trim.plan _ from failed.save (λ other. failed.saves) failed.told)

pub returns-in_err-print_outside-in-Trim-clause-trims : goal.returns-in_err-print_outside-in-Trim-clause-trims
returns-in_err-print_outside-in-Trim-clause-trims g c =
    let files = g.F.Folder.files in
    let settings = c.args.settings.now in
    let plan = c.in-Trim.plan in
    let from = subst (Decides settings (files c.args.folder.now)) c.in-Trim.is c.in_ok-name.ensures.decides in
    let left = subst (λ (after : Option Files). Leaves settings.dry_run (map named_file plan.changes.items) (texts plan.removed.items) (files c.decide.new.folder) after)
    (sym c.end.ensures.kept) c.in_ok-carry_out-in-Trim.ensures.left in
    let done = trimmed_by settings (files c.args.folder.now) (files c.decide.new.folder) (files c.end.new.self) plan _ from c.in_ok-name.ensures.enters.kept left c.as_slice.ensures.value in
    let failed = c.in_err-print_outside-in-Trim.ensures in
    trims_not settings (files c.args.folder.now) (files c.end.new.self) _ _ (outcome_of c.from_residual-in_err-print_outside-in-Trim.result) _ (comes_to c.from_residual-in_err-print_outside-in-Trim.result _ c.from_residual-in_err-print_outside-in-Trim.ensures.1)
    (record {
      unsaved = λ other. absurd (other (subst IsSaveFault (sym failed.fault) tt));
      scarce = λ memory. absurd (unwritten (sym failed.fault ∙ memory));
      whole = inr (_, done);
    })
    (λ other. absurd (other failed.fault))
    (λ written. (_, done, failed.begun))
  where
    unwritten : WriteFault ≡ OutOfMemory → ⊥
    unwritten is = cc

pub returns-in_err-print_outside-in-Trim-clause-cause : goal.returns-in_err-print_outside-in-Trim-clause-cause
returns-in_err-print_outside-in-Trim-clause-cause g c =
    let files = g.F.Folder.files in
    let settings = c.args.settings.now in
    let from = subst (Decides settings (files c.args.folder.now)) c.in-Trim.is c.in_ok-name.ensures.decides in
    let failed = c.in_err-print_outside-in-Trim.ensures in
    passed_on (outcome_of c.from_residual-in_err-print_outside-in-Trim.result) _ _ (comes_to c.from_residual-in_err-print_outside-in-Trim.result _ c.from_residual-in_err-print_outside-in-Trim.ensures.1)
    (unsaved settings (files c.args.folder.now) c.in-Trim.plan _ from (subst IsSaveFault (sym failed.fault) tt) (λ other. absurd (other failed.fault))
    (subst (TellsFile (λ name. name ≡ first_touched (map named_file c.in-Trim.plan.changes.items) (texts c.in-Trim.plan.removed.items))) (sym failed.fault) tt))

pub returns-in-Refuse-clause-trims : goal.returns-in-Refuse-clause-trims
returns-in-Refuse-clause-trims g c =
    let files = g.F.Folder.files in
    record {
      done = trims_none c.args.settings.now (files c.args.folder.now) (files c.decide.new.folder) (g.W.Write.contents c.args.output.now) _ _
          (subst (Decides c.args.settings.now (files c.args.folder.now)) c.in-Refuse.is c.in_ok-name.ensures.decides) refl c.in_ok-name.ensures.enters.kept;
      left = tt;
      silent = tt;
      broken = tt;
    }

pub returns-in_ok-print_outside-in-Trim-clause-trims : goal.returns-in_ok-print_outside-in-Trim-clause-trims
returns-in_ok-print_outside-in-Trim-clause-trims g c =
    let files = g.F.Folder.files in
    let settings = c.args.settings.now in
    let plan = c.in-Trim.plan in
    let from = subst (Decides settings (files c.args.folder.now)) c.in-Trim.is c.in_ok-name.ensures.decides in
    let left = subst (λ (after : Option Files). Leaves settings.dry_run (map named_file plan.changes.items) (texts plan.removed.items) (files c.decide.new.folder) after)
    (sym c.end.ensures.kept) c.in_ok-carry_out-in-Trim.ensures.left in
    record {
      done = (
        _,
        trimmed_by settings (files c.args.folder.now) (files c.decide.new.folder) (files c.end.new.self) plan _ from c.in_ok-name.ensures.enters.kept left c.as_slice.ensures.value,
        c.in_ok-print_outside-in-Trim.ensures.written,
      );
      left = tt;
      silent = tt;
      broken = tt;
    }

pub returns-in_err-name-clause-trims : goal.returns-in_err-name-clause-trims
returns-in_err-name-clause-trims g c =
    let files = g.F.Folder.files in
    let old = g.W.Write.contents c.args.output.now in
    let kept = c.in_err-name.ensures.enters.kept in
    trims_not c.args.settings.now (files c.args.folder.now) (files c.decide.new.folder) old old (outcome_of c.from_residual.result) c.in_err-name.field-0.0 (comes_to c.from_residual.result _ c.from_residual.ensures.1)
    (record { unsaved = λ other. kept; scarce = λ memory. kept; whole = inl kept })
    (λ unwritten. Keeps-refl old)
    (λ written. absurd (c.in_err-name.ensures.unprinted written))

pub returns-in_err-name-clause-version : goal.returns-in_err-name-clause-version
returns-in_err-name-clause-version g c =
    minds_passed (g.F.Folder.files c.args.folder.now) c.in_err-name.field-0.0 (outcome_of c.from_residual.result) (comes_to c.from_residual.result _ c.from_residual.ensures.1) c.in_err-name.ensures.version

pub returns-in_err-name-clause-counted : goal.returns-in_err-name-clause-counted
returns-in_err-name-clause-counted g c =
    counts_passed _ _ c.in_err-name.field-0.0 (outcome_of c.from_residual.result) c.in_err-name.ensures.enters.counted (comes_to c.from_residual.result _ c.from_residual.ensures.1)

pub returns-in_err-carry_out-in-Trim-clause-version : goal.returns-in_err-carry_out-in-Trim-clause-version
returns-in_err-carry_out-in-Trim-clause-version g c =
    minds_second (g.F.Folder.files c.args.folder.now) (outcome_of c.from_residual-in_err-carry_out-in-Trim.result) c.in_ok-name.ensures.version

pub returns-in_err-carry_out-in-Trim-clause-counted : goal.returns-in_err-carry_out-in-Trim-clause-counted
returns-in_err-carry_out-in-Trim-clause-counted g c =
    let fault = c.in_err-carry_out-in-Trim.field-0.0 in
    counts_passed _ _ fault (outcome_of c.from_residual-in_err-carry_out-in-Trim.result)
    (counts_from _ _ _ (Err fault) c.in_ok-name.ensures.enters.counted.later c.in_err-carry_out-in-Trim.ensures.counted)
    (comes_to c.from_residual-in_err-carry_out-in-Trim.result _ c.from_residual-in_err-carry_out-in-Trim.ensures.1)

pub returns-in_err-print_outside-in-Trim-clause-version : goal.returns-in_err-print_outside-in-Trim-clause-version
returns-in_err-print_outside-in-Trim-clause-version g c =
    minds_second (g.F.Folder.files c.args.folder.now) (outcome_of c.from_residual-in_err-print_outside-in-Trim.result) c.in_ok-name.ensures.version
