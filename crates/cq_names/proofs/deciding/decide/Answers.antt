use Rattle.std.proofs.Common.{refl, rules}
use Rattle.cq_files.proofs.CountLemmas.{counts_passed}
use Rattle.cq_names.proofs.EndLemmas.{counts_still, decided, minds_still, undecided, unprinted_still}
use Rattle.cq_names.proofs.deciding.decide.Goals as goal

pub returns-clause-decides : goal.returns-clause-decides
returns-clause-decides g c =
    decided c.args.change.now (g.F.Folder.files c.args.folder.now) c.in_ok-queue.queue c.decision_for.result c.in_ok-queue.ensures.opened
    c.decision_for.ensures.decides

pub returns-clause-cause : goal.returns-clause-cause
returns-clause-cause g c =
    undecided c.args.change.now (g.F.Folder.files c.args.folder.now) c.in_ok-queue.queue c.decision_for.result c.in_ok-queue.ensures.opened
    c.decision_for.ensures.fault

pub returns-clause-unprinted : goal.returns-clause-unprinted
returns-clause-unprinted g c =
    unprinted_still c.args.change.now c.in_ok-queue.queue.config c.decision_for.result c.decision_for.ensures.fault

pub returns-clause-version : goal.returns-clause-version
returns-clause-version g c =
    minds_still (g.F.Folder.files c.args.folder.now) c.in_ok-queue.queue c.decision_for.result (c.in_ok-queue.ensures.version refl)

pub returns-clause-enters : goal.returns-clause-enters
returns-clause-enters g c = record {
  kept = c.in_ok-queue.ensures.kept;
  counted = counts_still _ _ c.args.change.now c.in_ok-queue.queue.config c.decision_for.result c.in_ok-queue.ensures.counted.later
      c.decision_for.ensures.fault;
  inside = search rules;
}

pub returns-in_err-queue-clause-enters : goal.returns-in_err-queue-clause-enters
returns-in_err-queue-clause-enters g c = record {
  kept = c.in_err-queue.ensures.kept;
  counted = counts_passed _ _ c.in_err-queue.field-0.0 c.from_residual.result c.in_err-queue.ensures.counted c.from_residual.ensures.1;
  inside = search rules;
}
