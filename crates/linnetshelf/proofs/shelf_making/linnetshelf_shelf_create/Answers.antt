use Rattle.std.proofs.Common.{List, ℕ, inl, inr}
use Rattle.cq_handle.specs.declared.held.Held.{Held}
use Rattle.cq_handle.specs.declared.held.Held.TheVariants as held
use Rattle.cq_handle.specs.declared.held.ShelfUser.TheVariants as user
use Rattle.cq_shelf.specs.declared.writer.ShelfWriter.{ShelfWriter}
use Rattle.linnetshelf.specs.Makes.{HandsOut}
use Rattle.linnetshelf.specs.Shelves.{CreatesShelf, IsShelf}
use Rattle.linnetshelf.specs.declared.shelf_settings.ShelfSettings.{ShelfSettings}
use Rattle.linnetshelf.specs.declared.status.Status.{Status}
use Rattle.linnetshelf.proofs.shelf_making.linnetshelf_shelf_create.Goals as goal

-- a shelf that was made is handed out, or memory is refused to its handle
handed : (s : ShelfSettings) (text : List ℕ) (moment : ℕ) (writer : ShelfWriter) (old new : Held) (how : Status)
    → IsShelf s text moment writer
    → HandsOut old (held.Shelf (user.Writer writer)) new how → CreatesShelf s text moment old new how
handed s text moment writer old new how made (inl done) = inl (done.0, record { writer = writer; made = made; new_is = done.1 })
handed s text moment writer old new how made (inr none) = inr (inl (inr none.0), none.1)

pub returns-in-Ok : goal.returns-in-Ok
returns-in-Ok c = record {
  outcome = c.hand_out.result;
  says = handed c.args.settings.now c.args.names.now c.args.moment c.in-Ok.writer c.args.out.now.held
      c.hand_out.new.out.held c.hand_out.result c.in-Ok.ensures c.hand_out.ensures;
  answer_is = c.number.ensures;
}
