use Rattle.std.proofs.Common.{sym, ◌∙◌}
use Rattle.linnetshelf.proofs.appending.linnetshelf_roll_back.Goals as goal

pub returns-in-Endpoint : goal.returns-in-Endpoint
returns-in-Endpoint c =
    let held = sym c.held_mut.ensures.value ∙ c.in-Endpoint.is in
    rw held (
      record {
        outcome = c.roll_back.result;
        says = c.roll_back.ensures.says;
        answer_is = c.roll_back_answer.ensures;
      },
      c.roll_back.ensures.rest,
    )
