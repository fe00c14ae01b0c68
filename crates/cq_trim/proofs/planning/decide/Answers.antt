use Rattle.std.proofs.Common.{refl, rules}
use Rattle.std.specs.Prelude.{◌≢◌, IfSome}
use Rattle.cq_files.proofs.CountLemmas.{counts_passed}
use Rattle.cq_text.proofs.FaultLemmas.{passed_on}
use Rattle.cq_text.specs.declared.fault.ToolFault.TheVariants.{WriteFault}
use Rattle.cq_trim.specs.Plans.{IsUndecided}
use Rattle.cq_files.proofs.RefusingLemmas.{minds_passed, minds_second}
use Rattle.cq_trim.proofs.PlanLemmas.{counts_still, decided, not_decided, undecided, unprinted_still}
use Rattle.cq_trim.proofs.planning.decide.Goals as goal

pub returns-clause-decides : goal.returns-clause-decides
returns-clause-decides g c =
    decided (g.F.Folder.files c.args.folder.now) c.args.settings.now c.in_ok-queue.queue c.decision_for.result
    c.in_ok-queue.ensures.opened c.decision_for.ensures.decides

pub returns-clause-cause : goal.returns-clause-cause
returns-clause-cause g c =
    undecided (g.F.Folder.files c.args.folder.now) c.args.settings.now c.in_ok-queue.queue c.decision_for.result
    c.in_ok-queue.ensures.opened c.decision_for.ensures.fault

pub returns-in_err-queue-clause-cause : goal.returns-in_err-queue-clause-cause
returns-in_err-queue-clause-cause g c =
    let files = g.F.Folder.files c.args.folder.now in
    let fault = c.in_err-queue.field-0.0 in
    passed_on c.from_residual.result (λ f. IfSome files (λ held. IsUndecided c.args.settings.now held f)) fault c.from_residual.ensures.1
    (not_decided files c.args.settings.now fault c.in_err-queue.ensures.cause)

pub returns-in_err-queue-clause-unprinted : goal.returns-in_err-queue-clause-unprinted
returns-in_err-queue-clause-unprinted g c =
    passed_on c.from_residual.result (λ f. f ≢ WriteFault) c.in_err-queue.field-0.0 c.from_residual.ensures.1 c.in_err-queue.ensures.unprinted

pub returns-in_err-queue-clause-version : goal.returns-in_err-queue-clause-version
returns-in_err-queue-clause-version g c =
    minds_passed (g.F.Folder.files c.args.folder.now) c.in_err-queue.field-0.0 c.from_residual.result c.from_residual.ensures.1
    (c.in_err-queue.ensures.version refl)

pub returns-in_err-queue-clause-enters : goal.returns-in_err-queue-clause-enters
returns-in_err-queue-clause-enters g c = record {
  kept = c.in_err-queue.ensures.kept;
  counted = counts_passed _ _ c.in_err-queue.field-0.0 c.from_residual.result c.in_err-queue.ensures.counted c.from_residual.ensures.1;
  inside = search rules;
}

pub returns-clause-unprinted : goal.returns-clause-unprinted
returns-clause-unprinted g c =
    unprinted_still c.args.settings.now c.in_ok-queue.queue.config c.decision_for.result c.decision_for.ensures.fault

pub returns-clause-version : goal.returns-clause-version
returns-clause-version g c =
    minds_second (g.F.Folder.files c.args.folder.now) c.decision_for.result (c.in_ok-queue.ensures.version refl)

pub returns-clause-enters : goal.returns-clause-enters
returns-clause-enters g c = record {
  kept = c.in_ok-queue.ensures.kept;
  counted = counts_still _ _ c.args.settings.now c.in_ok-queue.queue.config c.decision_for.result c.in_ok-queue.ensures.counted.later
      c.decision_for.ensures.fault;
  inside = search rules;
}
