use Rattle.cq_text.proofs.LinesLemmas.{input_lines-at, input_lines-last}
use Rattle.cq_text.proofs.lines.split_line.Goals as goal

pub returns-in-Some : goal.returns-in-Some
returns-in-Some c =
    let found = c.in-Some.ensures.found in
    input_lines-at c.args.bytes.now c.in-Some.at found.0 found.1 found.2

pub returns-in-None : goal.returns-in-None
returns-in-None c = input_lines-last c.args.bytes.now c.requires c.in-None.ensures.none
