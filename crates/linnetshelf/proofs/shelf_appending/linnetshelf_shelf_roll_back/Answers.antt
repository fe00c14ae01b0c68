use Rattle.std.proofs.Common.{sym, ◌∙◌}
use Rattle.linnetshelf.proofs.shelf_appending.linnetshelf_shelf_roll_back.Goals as goal

pub returns-in-Shelf-Writer : goal.returns-in-Shelf-Writer
returns-in-Shelf-Writer c =
    let held = sym c.held_mut.ensures.value ∙ c.in-Shelf-Writer.is in
    rw (held, c.in-Shelf-Writer.field-0-is)
    (record { outcome = c.roll_back.result; says = c.roll_back.ensures; answer_is = c.roll_back_answer.ensures })
