use Rattle.std.proofs.Common.{◌≡◌, ◌++◌, filter}
use Rattle.cq_text.specs.Lines.{input_lines}
use Rattle.cq_advice.specs.Advice.{advice, faults_for, faults_in, is_about}
use Rattle.cq_advice.proofs.faults.advice_for.Given as goal

-- the text so far, and that of the faults that are left, are the whole
abbrev pub invariant-loop-fault : goal.invariant-loop-fault
invariant-loop-fault l =
    l.text.items ++ advice (faults_for l.given (l.fault-iterator.lines.rest.now)) ≡ advice (faults_for l.given l.table)
