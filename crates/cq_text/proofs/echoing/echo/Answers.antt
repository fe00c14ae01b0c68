use Rattle.cq_text.proofs.EchoLemmas.{input_at_fault, input_needs_no_device, lines_at_fault, unechoed}
use Rattle.cq_text.proofs.echoing.echo.Goals as goal

pub returns-in_err-bytes : goal.returns-in_err-bytes
returns-in_err-bytes g c =
    let input = g.R.Read.remaining c.args.input.now in
    let fault = c.in_err-bytes.field-0.0 in
    let why = c.in_err-bytes.ensures.fault in
    unechoed input (g.R.Read.remaining c.read_input.new.input) (g.W.Write.contents c.args.output.now) c.from_residual.result fault
    c.from_residual.ensures.1 (input_at_fault input fault why) (input_needs_no_device _ _ fault why)

pub returns-in_err-count : goal.returns-in_err-count
returns-in_err-count g c =
    let input = g.R.Read.remaining c.args.input.now in
    let left = g.R.Read.remaining c.read_input.new.input in
    let read = c.in_ok-bytes.ensures in
    let fault = c.in_err-count.field-0.0 in
    unechoed input left (g.W.Write.contents c.args.output.now) c.from_residual-in_err-count.result fault
    c.from_residual-in_err-count.ensures.1
    (lines_at_fault input left c.in_ok-bytes.bytes.items c.as_slice.result.now fault read.bytes read.whole read.small c.as_slice.ensures.value
    c.in_err-count.ensures.fault) c.in_err-count.ensures.device
