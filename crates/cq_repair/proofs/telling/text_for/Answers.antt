use Rattle.std.proofs.Common.{◌≡◌, ◌∙◌, ◌++◌, ℕ, List, Vec, Global, length, ap, string_bytes}
use Rattle.std.proofs.lemmas.Slice.Zip.{either_empty_from_Zip}
use Rattle.std.specs.Iterator.Adapters.{zip_first, zip_second}
use Rattle.std.specs.Slice.Iter.{iter_rest}
use Rattle.cq_repair.specs.Kept.{file_line, name_lines, salvaged}
use Rattle.cq_repair.proofs.LineLemmas.{all_written}
use Rattle.cq_repair.proofs.telling.text_for.Goals as goal

pub returns : goal.returns
returns c =
    let dry = c.args.dry_run in
    let found = c.args.found.now in
    let ended = c.args.kept.now.ended in
    let names = found.saved.config.names in
    let positions = found.saved.positions.items in
    let left = c.loop-name.name-iterator in
    let over = either_empty_from_Zip left c.next.new.self c.next.result c.in-None.is c.next.ensures.steps in
    let items : c.into_bytes.result.items ≡ string_bytes c.loop-name.text = ap (λ (v : Vec ℕ Global). v.items) c.into_bytes.ensures.value in
    let written = all_written dry ended c.args.kept.now.end (iter_rest (zip_first left)) (iter_rest (zip_second left)) (string_bytes c.loop-name.text) _ c.loop-name.invariant over in
    let first : string_bytes c.push_file.new.text ≡ file_line dry c.args.file.now (length c.as_slice.result.now) =
    c.in_ok-push_file.ensures ∙ ap (λ (text : List ℕ). text ++ file_line dry c.args.file.now (length c.as_slice.result.now)) c.new-text.ensures.bytes in
    let count : length c.as_slice.result.now ≡ length (salvaged found).messages =
    ap length c.as_slice.ensures ∙ ap length c.requires.messages in
    items ∙ (written
    ∙ (ap (λ (line : List ℕ). line ++ name_lines dry ended c.args.kept.now.end names positions) (first ∙ ap (λ (n : ℕ). file_line dry c.args.file.now n) count)
    ∙ ap (λ (end : ℕ). file_line dry c.args.file.now (length (salvaged found).messages) ++ name_lines dry ended end names positions) c.requires.end_is))
