use Rattle.std.proofs.Common.{◌≡◌, subst}
use Rattle.std.specs.Prelude.{IfSome, MatchOption, None, Option}
use Rattle.cq_files.proofs.CountLemmas.{counts_from, counts_passed, counts_scarce}
use Rattle.cq_files.proofs.QueueLemmas.{keeps-trans}
use Rattle.cq_folder.specs.Folder.{named_file}
use Rattle.cq_text.proofs.FaultLemmas.{passed_on}
use Rattle.cq_text.specs.declared.fault.ToolFault.TheVariants.{OutOfMemory}
use Rattle.cq_repair.specs.Kept.{salvaged}
use Rattle.cq_repair.specs.Plans.{IsPlanned, IsUndecided}
use Rattle.cq_repair.specs.declared.planning.Plan.{Plan}
use Rattle.cq_repair.proofs.EndLemmas.{decides_unless_taken, not_found, scarce, undecided, unprinted}
use Rattle.cq_repair.proofs.deciding.decide.Given as given
use Rattle.cq_repair.proofs.deciding.decide.Goals as goal
use Rattle.cq_repair.proofs.deciding.decide.Goals.{After-unless_taken}

planned : (g : given.Over) (c : After-unless_taken g) → IsPlanned c.args.dry_run c.args.file.now c.in_ok-found.found c.in-Some.plan
planned g c =
    subst (λ (plan : Option Plan). MatchOption plan ((salvaged c.in_ok-found.found).fault ≡ None) (IsPlanned c.args.dry_run c.args.file.now c.in_ok-found.found))
    c.in-Some.is c.in_ok-plan_for.ensures

pub returns-in_ok-from_str-in-None-clause-decides : goal.returns-in_ok-from_str-in-None-clause-decides
returns-in_ok-from_str-in-None-clause-decides g c = (
  c.in_ok-found.found,
  c.in_ok-found.ensures.found,
  subst (λ (plan : Option Plan). MatchOption plan ((salvaged c.in_ok-found.found).fault ≡ None) (IsPlanned c.args.dry_run c.args.file.now c.in_ok-found.found))
      c.in-None.is c.in_ok-plan_for.ensures,
  c.in_ok-from_str-in-None.ensures.ok,
)

pub returns-in-Some-clause-decides : goal.returns-in-Some-clause-decides
returns-in-Some-clause-decides g c =
    decides_unless_taken c.args.dry_run c.args.file.now (g.F.Folder.files c.args.folder.now) (g.F.Folder.files c.find.new.folder) c.in_ok-found.found
    c.in-Some.plan c.unless_taken.result c.in_ok-found.ensures.looks.kept c.in_ok-found.ensures.found
    (planned g (goal.at.returns-in-Some-clause-decides g c).After-unless_taken) c.unless_taken.ensures.decides

pub returns-in-Some-clause-cause : goal.returns-in-Some-clause-cause
returns-in-Some-clause-cause g c =
    undecided c.args.dry_run c.args.file.now (g.F.Folder.files c.args.folder.now) c.in_ok-found.found c.in-Some.plan c.unless_taken.result
    c.in_ok-found.ensures.found (planned g (goal.at.returns-in-Some-clause-cause g c).After-unless_taken) c.unless_taken.ensures.taken c.unless_taken.ensures.fault

pub returns-in-Some-clause-kept : goal.returns-in-Some-clause-kept
returns-in-Some-clause-kept g c =
    keeps-trans (g.F.Folder.files c.args.folder.now) (g.F.Folder.files c.find.new.folder) (g.F.Folder.files c.unless_taken.new.folder)
    c.in_ok-found.ensures.looks.kept c.unless_taken.ensures.stays.kept

pub returns-in_err-found-clause-cause : goal.returns-in_err-found-clause-cause
returns-in_err-found-clause-cause g c =
    let files = g.F.Folder.files c.args.folder.now in
    let fault = c.in_err-found.field-0.0 in
    passed_on c.from_residual.result (λ fault. IfSome files (λ held. IsUndecided c.args.file.now held fault)) fault c.from_residual.ensures.1
    (not_found c.args.file.now files fault c.in_err-found.ensures.looks.cause)

pub returns-in_err-found-clause-counted : goal.returns-in_err-found-clause-counted
returns-in_err-found-clause-counted g c =
    counts_passed _ _ c.in_err-found.field-0.0 c.from_residual.result c.in_err-found.ensures.looks.counted c.from_residual.ensures.1

pub returns-in_err-plan_for-clause-cause : goal.returns-in_err-plan_for-clause-cause
returns-in_err-plan_for-clause-cause g c =
    let files = g.F.Folder.files c.args.folder.now in
    passed_on c.from_residual-in_err-plan_for.result (λ fault. IfSome files (λ held. IsUndecided c.args.file.now held fault)) OutOfMemory
    c.from_residual-in_err-plan_for.ensures.1 (scarce c.args.file.now files)

pub returns-in_err-plan_for-clause-counted : goal.returns-in_err-plan_for-clause-counted
returns-in_err-plan_for-clause-counted g c =
    counts_scarce _ _ c.from_residual-in_err-plan_for.result c.in_ok-found.ensures.looks.counted.later c.from_residual-in_err-plan_for.ensures.1

pub returns-in_err-from_str-in-None-clause-cause : goal.returns-in_err-from_str-in-None-clause-cause
returns-in_err-from_str-in-None-clause-cause g c =
    let files = g.F.Folder.files c.args.folder.now in
    passed_on c.from_residual-in_err-from_str-in-None.result (λ fault. IfSome files (λ held. IsUndecided c.args.file.now held fault)) OutOfMemory
    c.from_residual-in_err-from_str-in-None.ensures.1 (scarce c.args.file.now files)

pub returns-in_err-from_str-in-None-clause-counted : goal.returns-in_err-from_str-in-None-clause-counted
returns-in_err-from_str-in-None-clause-counted g c =
    counts_scarce _ _ c.from_residual-in_err-from_str-in-None.result c.in_ok-found.ensures.looks.counted.later
    c.from_residual-in_err-from_str-in-None.ensures.1

pub returns-in-Some-clause-unprinted : goal.returns-in-Some-clause-unprinted
returns-in-Some-clause-unprinted g c = unprinted (named_file c.in-Some.plan.old).0 c.unless_taken.result c.unless_taken.ensures.fault

pub returns-in-Some-clause-counted : goal.returns-in-Some-clause-counted
returns-in-Some-clause-counted g c =
    counts_from _ _ _ c.unless_taken.result c.in_ok-found.ensures.looks.counted.later c.unless_taken.ensures.stays.counted
