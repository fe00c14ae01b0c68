use Rattle.cq_commands.proofs.OpeningLemmas.{opened_from}
use Rattle.cq_commands.proofs.opened.open_held.Goals as goal

pub returns-clause-opened : goal.returns-clause-opened
returns-clause-opened g c =
    let opened = c.in_ok-queue.ensures.opened in
    opened_from (g.F.Folder.files c.args.folder.now) c.in_ok-queue.queue c.in_ok-without_images.field-0 opened.lawful opened.held opened.whole
    opened.openable c.in_ok-without_images.ensures.config c.in_ok-without_images.ensures.held
