use Rattle.std.proofs.Common.{refl, subst, sym, [], ℕ, List}
use Rattle.cq_image.specs.Image.{AreNext}
use Rattle.cq_file_commands.specs.Migrated.{moved_settings}
use Rattle.cq_file_commands.proofs.MovingLemmas.{read_fit}
use Rattle.cq_file_commands.proofs.migrating.moved_image.Goals as goal

pub image_in-requires : goal.image_in-requires
image_in-requires c =
    read_fit c.args.config.now c.args.layout c.layout_of.result c.args.bytes.now c.in-Ok.read.messages c.requires.layout c.layout_of.ensures
    c.in-Ok.ensures.found.0

pub returns-in_ok-image_in-in-Ok-clause-fits : goal.returns-in_ok-image_in-in-Ok-clause-fits
returns-in_ok-image_in-in-Ok-clause-fits c =
    let layout = (moved_settings c.args.config.now).layout in
    subst (λ (messages : List (List ℕ)). AreNext layout [] messages) (sym c.in_ok-image_in-in-Ok.ensures.messages)
    (read_fit c.args.config.now layout c.layout_of.result c.args.bytes.now c.in-Ok.read.messages refl c.layout_of.ensures
    c.in-Ok.ensures.found.0)
