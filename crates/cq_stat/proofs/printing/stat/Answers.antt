use Rattle.std.proofs.lemmas.Result.{on_ok_weaker}
use Rattle.cq_text.proofs.OutputLemmas.{cut_short}
use Rattle.cq_text.proofs.FaultLemmas.{only_printing, passed_on}
use Rattle.cq_stat.specs.StatOut.{IsStatOut}
use Rattle.cq_stat.proofs.OpenLemmas.{not_said, not_written, stat_out}
use Rattle.cq_stat.proofs.printing.stat.Given as given
use Rattle.cq_stat.proofs.printing.stat.Goals as goal
use Rattle.cq_stat.proofs.printing.stat.Goals.{After-as_bytes}

-- what is printed is said of the queue
is_stat_out : (g : given.Over) (c : After-as_bytes g) → IsStatOut c.args.json (g.F.Folder.files c.args.folder.now) c.as_bytes.result.now
is_stat_out g c =
    stat_out c.args.json (g.F.Folder.files c.args.folder.now) c.in_ok-found.found c.as_bytes.result.now _ c.in_ok-found.ensures.found
    c.as_bytes.ensures.value c.in_ok-text.ensures

pub returns-in_err-found-clause-cause : goal.returns-in_err-found-clause-cause
returns-in_err-found-clause-cause g c =
    passed_on _ _ _ c.from_residual.ensures.1 (not_said c.args.json _ _ c.in_err-found.ensures.cause)

pub returns-clause-cause : goal.returns-clause-cause
returns-clause-cause g c =
    only_printing c.print_outside.result _
    (not_written c.args.json _ _ (is_stat_out g (goal.at.returns-clause-cause g c).After-as_bytes)) c.print_outside.ensures.fault

pub returns-clause-broken : goal.returns-clause-broken
returns-clause-broken g c =
    cut_short c.print_outside.result (λ begun. (c.as_bytes.result.now, is_stat_out g (goal.at.returns-clause-broken g c).After-as_bytes, begun))
    c.print_outside.ensures.begun

pub returns-clause-printed : goal.returns-clause-printed
returns-clause-printed g c =
    on_ok_weaker c.print_outside.result
    (λ written. (c.as_bytes.result.now, is_stat_out g (goal.at.returns-clause-printed g c).After-as_bytes, written))
    c.print_outside.ensures.written
