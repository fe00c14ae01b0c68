use Rattle.std.proofs.Common.{ℕ, List, ap, sym, subst, ◌∙◌}
use Rattle.std.specs.Prelude.{Option}
use Rattle.cq_folder.specs.Folder.{Files, KeepsFiles}
use Rattle.cq_names.specs.Edits.{name_lines}
use Rattle.cq_names.proofs.EndLemmas.{ends_listed, listed_fault}
use Rattle.cq_names.proofs.naming.list.Goals as goal

pub returns-clause-ends : goal.returns-clause-ends
returns-clause-ends g c =
    let files = g.F.Folder.files in
    let queue = c.in_ok-queue.queue in
    let printed = c.print_outside.ensures in
    ends_listed (files c.args.folder.now) (files c.end.new.self) _ _ c.as_slice.result.now c.print_outside.result
    (record {
      queue = queue;
      opened = c.in_ok-queue.ensures.opened;
      kept = subst (λ (after : Option Files). KeepsFiles (files c.args.folder.now) after) (sym c.end.ensures.kept) c.in_ok-queue.ensures.kept;
      text_is = c.as_slice.ensures.value ∙ c.in_ok-text.ensures
          ∙ ap (λ (names : List (List ℕ)). name_lines names c.as_slice-positions.result.now) c.names.ensures.value
          ∙ ap (name_lines queue.config.names) c.as_slice-positions.ensures;
    })
    printed.written printed.fault printed.begun

pub returns-clause-cause : goal.returns-clause-cause
returns-clause-cause g c =
    listed_fault (g.F.Folder.files c.args.folder.now) c.in_ok-queue.queue c.print_outside.result c.in_ok-queue.ensures.opened c.print_outside.ensures.fault
