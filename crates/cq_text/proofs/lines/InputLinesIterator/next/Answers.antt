use Rattle.std.proofs.Common.{◌≡◌, length, rules}
use Rattle.cq_text.proofs.LinesLemmas.{input_lines-empty}
use Rattle.cq_text.proofs.lines.InputLinesIterator.next.Goals as goal

pub returns-then-is_empty-clause-steps : goal.returns-then-is_empty-clause-steps
returns-then-is_empty-clause-steps c =
    let empty : length c.args.self.now.rest.now ≡ 0 = search rules in
    let none = input_lines-empty c.args.self.now.rest.now empty in
    (none, none)
