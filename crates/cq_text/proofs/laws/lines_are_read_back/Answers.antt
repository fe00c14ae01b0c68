use Rattle.std.proofs.Common.{[], ◌++◌, List, ℕ, ap, sym, ◌∙◌, append-nil}
use Rattle.cq_text.specs.Lines.{input_lines, text_of}
use Rattle.cq_text.proofs.LinesLemmas.{input_lines-last, input_lines-text_of}
use Rattle.cq_text.proofs.laws.lines_are_read_back.Goals as goal

pub returns-clause-ended : goal.returns-clause-ended
unfolding input_lines
returns-clause-ended c lines all =
    ap input_lines (sym (append-nil (text_of lines))) ∙ input_lines-text_of lines [] all ∙ append-nil lines

pub returns-clause-unended : goal.returns-clause-unended
unfolding input_lines
returns-clause-unended c lines last all is some =
    input_lines-text_of lines last all
    ∙ ap (λ (more : List (List ℕ)). lines ++ more) (input_lines-last last some (λ k lt. is k 0 lt))
