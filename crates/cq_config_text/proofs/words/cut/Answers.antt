use Rattle.cq_config_text.proofs.CutLemmas.{cut_at_first, cut_nowhere}
use Rattle.cq_config_text.proofs.words.cut.Goals as goal

pub returns-in_err-at-clause-none : goal.returns-in_err-at-clause-none
returns-in_err-at-clause-none c =
    rw c.from_residual.ensures (cut_nowhere c.args.bytes.now c.args.mark c.in_err-at.ensures.none)

pub returns-clause-parts : goal.returns-clause-parts
returns-clause-parts c =
    let found = c.in_ok-at.ensures.found in
    cut_at_first c.args.bytes.now c.args.mark c.in_ok-at.at found.0 found.1 found.2
