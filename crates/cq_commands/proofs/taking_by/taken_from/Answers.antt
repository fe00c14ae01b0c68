use Rattle.std.proofs.Common.{◌≡◌, ap, length, rules}
use Rattle.cq_model.specs.Journals.{ReaderFacts}
use Rattle.cq_commands.proofs.TakenLinesLemmas.{lines_were_taken, no_lines_taken}
use Rattle.cq_commands.proofs.taking_by.taken_from.Goals as goal

pub returns-then-is_empty : goal.returns-then-is_empty
returns-then-is_empty c =
    let has = c.in_ok-lines.ensures in
    let none : length c.in_ok-lines.lines.items ≡ 0 = search rules in
    no_lines_taken c.args.held c.args.config.now c.into_reader-reader.result c.lines_taken.new.reader c.args.name.now c.args.most has.0
    (ap (λ (reader : ReaderFacts). reader.journal) c.into_reader-reader.ensures) c.requires.names has.1 c.in_ok-lines.lines.items has.2 none

pub returns : goal.returns
returns c =
    let has = c.in_ok-lines.ensures in
    let some : ¬ (length c.in_ok-lines.lines.items ≡ 0) = search rules in
    lines_were_taken c.args.held c.args.config.now c.into_reader-reader.result c.lines_taken.new.reader c.args.name.now c.args.most has.0
    (ap (λ (reader : ReaderFacts). reader.journal) c.into_reader-reader.ensures) c.requires.names has.1 _ has.2 some c.in_ok-config.ensures.text
