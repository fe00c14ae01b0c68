use Rattle.std.proofs.Common.{sym, ◌∙◌}
use Rattle.cq_folder.proofs.NamedLemmas.{contained, named}
use Rattle.cq_repair.proofs.finding.is_image.Goals as goal

pub returns : goal.returns
returns c =
    let names = c.args.names.now in
    let file = c.args.file.now in (
      λ is. (sym c.is_image_name.ensures ∙ c.if-not-is_image_name.false, named names file (sym c.has_name.ensures ∙ is)),
      λ both. c.has_name.ensures ∙ contained names file both.1,
    )
