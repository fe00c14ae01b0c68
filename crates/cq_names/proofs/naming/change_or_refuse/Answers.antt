use Rattle.std.proofs.Common.{◌≡◌, ◌∷◌, [], ℕ, List, inl, inr, rules, subst, sym, ◌∙◌}
use Rattle.std.proofs.KnownBytes.{Keeps-refl}
use Rattle.std.specs.Prelude.{None, Ok, Option, Some}
use Rattle.cq_files.proofs.CountLemmas.{counts_from, counts_other, counts_passed}
use Rattle.cq_files.proofs.QueueLemmas.{keeps-trans}
use Rattle.cq_files.proofs.WritingLemmas.{tells_file}
use Rattle.cq_files.specs.FolderFaults.{IsFileFault, IsSaveFault}
use Rattle.cq_folder.specs.Folder.{Files, KeepsOrWrites, WritesFile}
use Rattle.cq_folder.specs.declared.names.TheConstants.{CONFIG_FILE}
use Rattle.cq_text.proofs.FaultLemmas.{passed_on}
use Rattle.cq_text.specs.Faults.{IsDeviceFault}
use Rattle.cq_text.specs.declared.fault.ToolFault.{ToolFault}
use Rattle.cq_text.specs.declared.fault.ToolFault.TheVariants.{OutOfMemory, WriteFault}
use Rattle.cq_names.specs.Names.{Decides}
use Rattle.cq_names.specs.declared.fault.NameRefusal.{NameRefusal}
use Rattle.cq_names.proofs.EndLemmas.{changed_by, ends_not, ends_refused, kept_or_changed, minds_passed, minds_still, undone, unsaved}
use Rattle.cq_names.proofs.naming.change_or_refuse.Goals as goal

pub returns-in_err-refusal-clause-cause : goal.returns-in_err-refusal-clause-cause
returns-in_err-refusal-clause-cause g c =
    passed_on _ _ _ c.from_residual.ensures.1 (undone c.args.change.now (g.F.Folder.files c.args.folder.now) _ c.requires c.in_err-refusal.ensures.cause)

pub returns-in_err-write_file-in-Change-clause-ends : goal.returns-in_err-write_file-in-Change-clause-ends
returns-in_err-write_file-in-Change-clause-ends g c =
    let files = g.F.Folder.files in
    let change = c.args.change.now in
    let old = g.W.Write.contents c.args.output.now in
    let from = subst (Decides change (files c.args.folder.now)) c.in-Change.is c.in_ok-refusal.ensures.decides in
    let kept = c.in_ok-refusal.ensures.enters.kept in
    let failed = c.in_err-write_file-in-Change.ensures in
    ends_not change (files c.args.folder.now) (files c.write_file.new.folder) old old _ _ c.from_residual-in_err-write_file-in-Change.ensures.1
    (record {
      unsaved = λ other. absurd (other failed.save);
      scarce = λ memory. keeps-trans (files c.args.folder.now) (files c.decide.new.folder) (files c.write_file.new.folder) kept (failed.scarce memory);
      whole = kept_or_changed change (files c.args.folder.now) (files c.decide.new.folder) (files c.write_file.new.folder) c.in-Change.plan c.requires from kept
          (subst (λ (bytes : List ℕ). KeepsOrWrites (files c.decide.new.folder) (files c.write_file.new.folder) ((CONFIG_FILE.now, bytes) ∷ []))
          c.as_slice.ensures.value failed.whole);
    })
    (λ unwritten. Keeps-refl old)
    (λ written. absurd (subst (IsFileFault CONFIG_FILE.now) written failed.fault))

pub returns-in_err-print_outside-in-Change-clause-ends : goal.returns-in_err-print_outside-in-Change-clause-ends
returns-in_err-print_outside-in-Change-clause-ends g c =
    let files = g.F.Folder.files in
    let change = c.args.change.now in
    let plan = c.in-Change.plan in
    let from = subst (Decides change (files c.args.folder.now)) c.in-Change.is c.in_ok-refusal.ensures.decides in
    let written = subst (λ (after : Option Files). WritesFile (files c.decide.new.folder) after CONFIG_FILE.now plan.config.items) (sym c.end.ensures.kept)
    (subst (λ (bytes : List ℕ). WritesFile (files c.decide.new.folder) (files c.write_file.new.folder) CONFIG_FILE.now bytes) c.as_slice.ensures.value
    c.in_ok-write_file-in-Change.ensures.written) in
    let done = changed_by change (files c.args.folder.now) (files c.decide.new.folder) (files c.end.new.self) plan _ c.requires from c.in_ok-refusal.ensures.enters.kept
    written c.as_slice-in-Change.ensures.value in
    let failed = c.in_err-print_outside-in-Change.ensures in
    ends_not change (files c.args.folder.now) (files c.end.new.self) _ _ _ _ c.from_residual-in_err-print_outside-in-Change.ensures.1
    (record {
      unsaved = λ other. absurd (other (subst IsSaveFault (sym failed.fault) tt));
      scarce = λ memory. absurd (unwritten (sym failed.fault ∙ memory));
      whole = inr (_, done);
    })
    (λ other. absurd (other failed.fault))
    (λ same. (_, done, failed.begun))
  where
    unwritten : WriteFault ≡ OutOfMemory → ⊥
    unwritten is = cc

pub returns-in_err-print_outside-in-Change-clause-cause : goal.returns-in_err-print_outside-in-Change-clause-cause
returns-in_err-print_outside-in-Change-clause-cause g c =
    let files = g.F.Folder.files in
    let from = subst (Decides c.args.change.now (files c.args.folder.now)) c.in-Change.is c.in_ok-refusal.ensures.decides in
    passed_on _ _ _ c.from_residual-in_err-print_outside-in-Change.ensures.1
    (unsaved c.args.change.now (files c.args.folder.now) c.in-Change.plan _ c.requires from (inl c.in_err-print_outside-in-Change.ensures.fault))

pub returns-in-Refuse-clause-ends : goal.returns-in-Refuse-clause-ends
returns-in-Refuse-clause-ends g c =
    let files = g.F.Folder.files in
    record {
      done = ends_refused c.args.change.now (files c.args.folder.now) (files c.decide.new.folder) (g.W.Write.contents c.args.output.now) c.in-Refuse.refusal
          (subst (Decides c.args.change.now (files c.args.folder.now)) c.in-Refuse.is c.in_ok-refusal.ensures.decides) c.in_ok-refusal.ensures.enters.kept;
      left = tt;
      silent = tt;
      broken = tt;
    }

pub returns-in_ok-print_outside-in-Change-clause-ends : goal.returns-in_ok-print_outside-in-Change-clause-ends
returns-in_ok-print_outside-in-Change-clause-ends g c =
    let files = g.F.Folder.files in
    let change = c.args.change.now in
    let plan = c.in-Change.plan in
    let from = subst (Decides change (files c.args.folder.now)) c.in-Change.is c.in_ok-refusal.ensures.decides in
    let written = subst (λ (after : Option Files). WritesFile (files c.decide.new.folder) after CONFIG_FILE.now plan.config.items) (sym c.end.ensures.kept)
    (subst (λ (bytes : List ℕ). WritesFile (files c.decide.new.folder) (files c.write_file.new.folder) CONFIG_FILE.now bytes) c.as_slice.ensures.value
    c.in_ok-write_file-in-Change.ensures.written) in
    record {
      done = (
        _,
        changed_by change (files c.args.folder.now) (files c.decide.new.folder) (files c.end.new.self) plan _ c.requires from c.in_ok-refusal.ensures.enters.kept
            written c.as_slice-in-Change.ensures.value,
        c.in_ok-print_outside-in-Change.ensures.written,
      );
      left = tt;
      silent = tt;
      broken = tt;
    }

pub returns-in_err-write_file-in-Change-clause-told : goal.returns-in_err-write_file-in-Change-clause-told
returns-in_err-write_file-in-Change-clause-told g c =
    let told = c.in_err-write_file-in-Change.ensures in
    passed_on _ _ _ c.from_residual-in_err-write_file-in-Change.ensures.1 (inr (tells_file CONFIG_FILE.now _ told.fault))

pub returns-in_err-refusal-clause-version : goal.returns-in_err-refusal-clause-version
returns-in_err-refusal-clause-version g c =
    minds_passed (g.F.Folder.files c.args.folder.now) c.in_err-refusal.field-0.0 c.from_residual.result c.in_err-refusal.ensures.version
    c.from_residual.ensures.1

pub returns-in-Refuse-clause-version : goal.returns-in-Refuse-clause-version
returns-in-Refuse-clause-version g c =
    minds_still (g.F.Folder.files c.args.folder.now) c.in_ok-refusal.field-0 (Ok (Some c.in-Refuse.refusal)) c.in_ok-refusal.ensures.version

pub returns-in_err-write_file-in-Change-clause-version : goal.returns-in_err-write_file-in-Change-clause-version
returns-in_err-write_file-in-Change-clause-version g c =
    minds_still (g.F.Folder.files c.args.folder.now) c.in_ok-refusal.field-0 c.from_residual-in_err-write_file-in-Change.result
    c.in_ok-refusal.ensures.version

pub returns-in_err-print_outside-in-Change-clause-version : goal.returns-in_err-print_outside-in-Change-clause-version
returns-in_err-print_outside-in-Change-clause-version g c =
    minds_still (g.F.Folder.files c.args.folder.now) c.in_ok-refusal.field-0 c.from_residual-in_err-print_outside-in-Change.result
    c.in_ok-refusal.ensures.version

pub returns-in_ok-print_outside-in-Change-clause-version : goal.returns-in_ok-print_outside-in-Change-clause-version
returns-in_ok-print_outside-in-Change-clause-version g c =
    let none : Option NameRefusal = None in
    minds_still (g.F.Folder.files c.args.folder.now) c.in_ok-refusal.field-0 (Ok none) c.in_ok-refusal.ensures.version

pub returns-in_err-refusal-clause-counted : goal.returns-in_err-refusal-clause-counted
returns-in_err-refusal-clause-counted g c =
    counts_passed _ _ c.in_err-refusal.field-0.0 c.from_residual.result c.in_err-refusal.ensures.enters.counted c.from_residual.ensures.1

pub returns-in_err-write_file-in-Change-clause-counted : goal.returns-in_err-write_file-in-Change-clause-counted
returns-in_err-write_file-in-Change-clause-counted g c =
    counts_from _ (g.F.Folder.failed c.decide.new.folder) _ c.from_residual-in_err-write_file-in-Change.result c.in_ok-refusal.ensures.enters.counted.later
    (counts_passed _ _ c.in_err-write_file-in-Change.field-0.0 c.from_residual-in_err-write_file-in-Change.result
    c.in_err-write_file-in-Change.ensures.counted c.from_residual-in_err-write_file-in-Change.ensures.1)

pub returns-in_err-print_outside-in-Change-clause-counted : goal.returns-in_err-print_outside-in-Change-clause-counted
returns-in_err-print_outside-in-Change-clause-counted g c =
    counts_other _ _ c.in_err-print_outside-in-Change.field-0.0 c.from_residual-in_err-print_outside-in-Change.result (search rules)
    (subst (λ (fault : ToolFault). ¬ IsDeviceFault fault) (sym c.in_err-print_outside-in-Change.ensures.fault) (λ device. device))
    c.from_residual-in_err-print_outside-in-Change.ensures.1
