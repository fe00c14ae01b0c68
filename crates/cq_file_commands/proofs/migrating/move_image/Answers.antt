use Rattle.cq_text.proofs.FaultLemmas.{passed_on}
use Rattle.cq_file_commands.proofs.MovingLemmas.{file_cause}
use Rattle.cq_file_commands.proofs.migrating.move_image.Goals as goal

pub returns-in_err-bytes-clause-cause : goal.returns-in_err-bytes-clause-cause
returns-in_err-bytes-clause-cause g c =
    passed_on _ _ _ c.from_residual.ensures.1
    (file_cause _ c.args.config.now _ _ c.in_err-bytes.ensures.fault c.in_err-bytes.ensures.cause)
