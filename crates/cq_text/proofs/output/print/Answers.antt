use Rattle.cq_text.proofs.OutputLemmas.{whole_written}
use Rattle.cq_text.proofs.output.print.Goals as goal

pub returns-clause-begun : goal.returns-clause-begun
returns-clause-begun g c =
    whole_written c.map_err.result _ _ _ c.args.text.now c.in_ok-write_whole.ensures.written c.flush.ensures.bytes
