use Rattle.std.proofs.Common.{◌≡◌, ℕ, ◌*◌, ◌≤◌, ◌<◌, ◌^◌, Bool, List, [], length, ap, sym, ◌∙◌, arith}
use Rattle.cq_layout.specs.Cells.{cells_of}
use Rattle.cq_layout.specs.Layout.{IsLawfulLayout, CycleLayout}
use Rattle.cq_image.specs.Image.{AreNext, image_cells, image_of}
use Rattle.cq_image.proofs.CellBounds.{AreCells-image, cells_of-bytes_of}
use Rattle.cq_image.proofs.WritingLemmas.{length-bytes_of, length-image_cells-≤}
use Rattle.cq_text.proofs.dump_lines.dump_text_by_layout.Goals as goal

-- an image has few bytes
few_bytes : (layout : CycleLayout) (cycle : ℕ) (messages : List (List ℕ)) (ended : Bool) (bytes : List ℕ) → IsLawfulLayout layout
    → AreNext layout [] messages → bytes ≡ image_of layout cycle messages ended → length bytes ≤ 2 ^ 22
unfolding image_of
few_bytes layout cycle messages ended bytes lawful next is =
    let cells : List ℕ = image_cells layout cycle messages ended in
    let size : length bytes ≡ 4 * length cells = ap length is ∙ length-bytes_of cells in
    let low : length cells ≤ layout.cells = length-image_cells-≤ layout cycle messages ended lawful next in
    let most : layout.cells ≤ 2 ^ 20 = lawful.shape.cells_high in
    omega arith

-- the cells of its bytes are the image's
same_cells : (layout : CycleLayout) (cycle : ℕ) (messages : List (List ℕ)) (ended : Bool) (bytes : List ℕ) → IsLawfulLayout layout
    → cycle < 2 ^ 32 → AreNext layout [] messages → bytes ≡ image_of layout cycle messages ended
    → cells_of bytes ≡ image_cells layout cycle messages ended
unfolding image_of
same_cells layout cycle messages ended bytes lawful low next is =
    ap cells_of is
    ∙ cells_of-bytes_of (image_cells layout cycle messages ended) (AreCells-image layout cycle messages ended lawful low next)

pub cells_in-requires : goal.cells_in-requires
cells_in-requires c =
    let read = c.in_ok-messages.field-0 in
    let found = c.in_ok-messages.ensures.found in
    few_bytes c.args.layout c.args.cycle read.messages read.ended c.args.bytes.now c.cells-cells.ensures.lawful found.0 found.1

pub lines_of-requires-clause-cells : goal.lines_of-requires-clause-cells
lines_of-requires-clause-cells c =
    let read = c.in_ok-messages.field-0 in
    let found = c.in_ok-messages.ensures.found in
    c.as_slice-2.ensures.value ∙ c.in_ok-cells.ensures
    ∙ same_cells c.args.layout c.args.cycle read.messages read.ended c.args.bytes.now c.cells-cells.ensures.lawful
    c.ranges.cycle.fits found.0 found.1
    ∙ ap (λ messages. image_cells c.args.layout c.args.cycle messages read.ended) (sym c.as_slice.ensures)
