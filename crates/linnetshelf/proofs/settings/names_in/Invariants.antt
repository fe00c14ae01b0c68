use Rattle.std.proofs.Common.{◌≡◌, ◌++◌}
use Rattle.cq_model.specs.Settings.{texts}
use Rattle.cq_text.specs.Lines.{input_lines}
use Rattle.linnetshelf.proofs.settings.names_in.Given as goal

-- the names so far, and the lines that are left, are all
abbrev pub invariant-loop-line : goal.invariant-loop-line
invariant-loop-line l = input_lines l.fn.text ≡ texts l.names.items ++ input_lines l.line-iterator.rest.now
