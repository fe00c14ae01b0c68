use Rattle.std.proofs.Common.{ℕ, Vec, Global, ◌≡◌, ◌∙◌, ap, string_bytes}
use Rattle.std.proofs.lemmas.Slice.Zip.{either_empty_from_Zip}
use Rattle.std.specs.Iterator.Adapters.{zip_first, zip_second}
use Rattle.std.specs.Slice.Iter.{iter_rest}
use Rattle.cq_model.specs.Settings.{texts}
use Rattle.cq_names.specs.Edits.{name_lines}
use Rattle.cq_names.proofs.NameLemmas.{all_written}
use Rattle.cq_names.proofs.lines.lines_of.Goals as goal

pub returns : goal.returns
returns c =
    let left = c.loop-name.name-iterator in
    let ended = either_empty_from_Zip left c.next.new.self c.next.result c.in-None.is c.next.ensures.steps in
    let items : c.into_bytes.result.items ≡ string_bytes c.loop-name.text =
    ap (λ (v : Vec ℕ Global). v.items) c.into_bytes.ensures.value in
    items
    ∙ all_written (iter_rest (zip_first left)) (iter_rest (zip_second left)) (string_bytes c.loop-name.text)
    (name_lines (texts c.args.names.now) c.args.positions.now) c.loop-name.invariant ended
