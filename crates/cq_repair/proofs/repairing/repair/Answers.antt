use Rattle.std.proofs.Common.{subst, sym}
use Rattle.std.proofs.KnownBytes.{Keeps-refl}
use Rattle.std.specs.Prelude.{Err, IfSome, Option}
use Rattle.cq_folder.specs.Folder.{Files}
use Rattle.cq_files.proofs.CountLemmas.{counts_from, counts_passed}
use Rattle.cq_text.proofs.FaultLemmas.{passed_on}
use Rattle.cq_repair.specs.Plans.{Decides, IsPlanCutShort, Leaves, writes_of}
use Rattle.cq_repair.specs.Repairs.{IsRepairFault, outcome_of}
use Rattle.cq_repair.proofs.EndLemmas.{comes_to, not_printed, repaired_by, repairs_not, undone, unsaved}
use Rattle.cq_repair.proofs.repairing.repair.Goals as goal

pub returns-in_err-carry_out-in-Repair-clause-repairs : goal.returns-in_err-carry_out-in-Repair-clause-repairs
returns-in_err-carry_out-in-Repair-clause-repairs g c =
    let files = g.F.Folder.files in
    let dry = c.args.dry_run in
    let file = c.args.file.now in
    let old = g.W.Write.contents c.args.output.now in
    let from = subst (Decides dry file (files c.args.folder.now)) c.in-Repair.is c.in_ok-refusal.ensures.decides in
    let failed = c.in_err-carry_out-in-Repair.ensures in
    repairs_not dry file (files c.args.folder.now) (files c.carry_out.new.folder) old old (outcome_of c.from_residual-in_err-carry_out-in-Repair.result) _ (comes_to c.from_residual-in_err-carry_out-in-Repair.result _ c.from_residual-in_err-carry_out-in-Repair.ensures.1)
    (λ unwritten. Keeps-refl old)
    (λ written. absurd (subst (IsPlanCutShort c.in-Repair.plan (files c.decide.new.folder) (files c.carry_out.new.folder)) written failed.cut_short))

pub returns-in_err-carry_out-in-Repair-clause-cause : goal.returns-in_err-carry_out-in-Repair-clause-cause
returns-in_err-carry_out-in-Repair-clause-cause g c =
    let files = g.F.Folder.files in
    let dry = c.args.dry_run in
    let file = c.args.file.now in
    let from = subst (Decides dry file (files c.args.folder.now)) c.in-Repair.is c.in_ok-refusal.ensures.decides in
    let failed = c.in_err-carry_out-in-Repair.ensures in
    passed_on (outcome_of c.from_residual-in_err-carry_out-in-Repair.result)
    (λ f. IfSome (files c.args.folder.now) (λ held. IsRepairFault dry file held (files c.carry_out.new.folder) f)) c.in_err-carry_out-in-Repair.field-0.0
    (comes_to c.from_residual-in_err-carry_out-in-Repair.result _ c.from_residual-in_err-carry_out-in-Repair.ensures.1)
    (unsaved dry file (files c.args.folder.now) (files c.decide.new.folder) (files c.carry_out.new.folder) c.in-Repair.plan c.in_err-carry_out-in-Repair.field-0.0
    from c.in_ok-refusal.ensures.kept failed.saves failed.cut_short)

pub returns-in_err-print_outside-in-Repair-clause-repairs : goal.returns-in_err-print_outside-in-Repair-clause-repairs
returns-in_err-print_outside-in-Repair-clause-repairs g c =
    let files = g.F.Folder.files in
    let dry = c.args.dry_run in
    let file = c.args.file.now in
    let plan = c.in-Repair.plan in
    let from = subst (Decides dry file (files c.args.folder.now)) c.in-Repair.is c.in_ok-refusal.ensures.decides in
    let left = subst (λ (after : Option Files). Leaves dry (writes_of plan) (files c.decide.new.folder) after) (sym c.end.ensures.kept)
    c.in_ok-carry_out-in-Repair.ensures.left in
    let done = repaired_by dry file (files c.args.folder.now) (files c.decide.new.folder) (files c.end.new.self) plan _ from c.in_ok-refusal.ensures.kept left
    c.as_slice.ensures.value in
    let failed = c.in_err-print_outside-in-Repair.ensures in
    repairs_not dry file (files c.args.folder.now) (files c.end.new.self) _ _ (outcome_of c.from_residual-in_err-print_outside-in-Repair.result) _ (comes_to c.from_residual-in_err-print_outside-in-Repair.result _ c.from_residual-in_err-print_outside-in-Repair.ensures.1)
    (λ other. absurd (other failed.fault))
    (λ written. (_, done, failed.begun))

pub returns-in_err-print_outside-in-Repair-clause-cause : goal.returns-in_err-print_outside-in-Repair-clause-cause
returns-in_err-print_outside-in-Repair-clause-cause g c =
    let files = g.F.Folder.files in
    let dry = c.args.dry_run in
    let file = c.args.file.now in
    let plan = c.in-Repair.plan in
    let from = subst (Decides dry file (files c.args.folder.now)) c.in-Repair.is c.in_ok-refusal.ensures.decides in
    let failed = c.in_err-print_outside-in-Repair.ensures in
    passed_on (outcome_of c.from_residual-in_err-print_outside-in-Repair.result)
    (λ f. IfSome (files c.args.folder.now) (λ held. IsRepairFault dry file held (files c.end.new.self) f)) c.in_err-print_outside-in-Repair.field-0.0
    (comes_to c.from_residual-in_err-print_outside-in-Repair.result _ c.from_residual-in_err-print_outside-in-Repair.ensures.1)
    (not_printed dry file (files c.args.folder.now) (files c.end.new.self) plan c.in_err-print_outside-in-Repair.field-0.0 from failed.fault)

pub returns-in_ok-print_outside-in-Repair-clause-repairs : goal.returns-in_ok-print_outside-in-Repair-clause-repairs
returns-in_ok-print_outside-in-Repair-clause-repairs g c =
    let files = g.F.Folder.files in
    let dry = c.args.dry_run in
    let file = c.args.file.now in
    let plan = c.in-Repair.plan in
    let from = subst (Decides dry file (files c.args.folder.now)) c.in-Repair.is c.in_ok-refusal.ensures.decides in
    let left = subst (λ (after : Option Files). Leaves dry (writes_of plan) (files c.decide.new.folder) after) (sym c.end.ensures.kept)
    c.in_ok-carry_out-in-Repair.ensures.left in
    record {
      done = (
        _,
        repaired_by dry file (files c.args.folder.now) (files c.decide.new.folder) (files c.end.new.self) plan _ from c.in_ok-refusal.ensures.kept left c.as_slice.ensures.value,
        c.in_ok-print_outside-in-Repair.ensures.written,
      );
      silent = tt;
      broken = tt;
    }

pub returns-in_err-refusal-clause-repairs : goal.returns-in_err-refusal-clause-repairs
returns-in_err-refusal-clause-repairs g c =
    let files = g.F.Folder.files in
    let old = g.W.Write.contents c.args.output.now in
    repairs_not c.args.dry_run c.args.file.now (files c.args.folder.now) (files c.decide.new.folder) old old (outcome_of c.from_residual.result) _ (comes_to c.from_residual.result _ c.from_residual.ensures.1)
    (λ unwritten. Keeps-refl old) (λ written. absurd (c.in_err-refusal.ensures.unprinted written))

pub returns-in_err-refusal-clause-cause : goal.returns-in_err-refusal-clause-cause
returns-in_err-refusal-clause-cause g c =
    let before = g.F.Folder.files c.args.folder.now in
    let after = g.F.Folder.files c.decide.new.folder in
    let fault = c.in_err-refusal.field-0.0 in
    passed_on (outcome_of c.from_residual.result) (λ f. IfSome before (λ held. IsRepairFault c.args.dry_run c.args.file.now held after f)) fault (comes_to c.from_residual.result _ c.from_residual.ensures.1)
    (undone c.args.dry_run c.args.file.now before after fault c.in_err-refusal.ensures.kept c.in_err-refusal.ensures.cause)

pub returns-in_err-refusal-clause-counted : goal.returns-in_err-refusal-clause-counted
returns-in_err-refusal-clause-counted g c =
    counts_passed _ _ c.in_err-refusal.field-0.0 (outcome_of c.from_residual.result) c.in_err-refusal.ensures.counted (comes_to c.from_residual.result _ c.from_residual.ensures.1)

pub returns-in_err-carry_out-in-Repair-clause-counted : goal.returns-in_err-carry_out-in-Repair-clause-counted
returns-in_err-carry_out-in-Repair-clause-counted g c =
    let fault = c.in_err-carry_out-in-Repair.field-0.0 in
    counts_passed _ _ fault (outcome_of c.from_residual-in_err-carry_out-in-Repair.result)
    (counts_from _ _ _ (Err fault) c.in_ok-refusal.ensures.counted.later c.in_err-carry_out-in-Repair.ensures.counted)
    (comes_to c.from_residual-in_err-carry_out-in-Repair.result _ c.from_residual-in_err-carry_out-in-Repair.ensures.1)
