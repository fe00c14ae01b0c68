use Rattle.std.proofs.Common.{◌≡◌, ◌≤◌, ◌+◌, ◌++◌, [], length}
use Rattle.cq_model.specs.Settings.{texts}
use Rattle.cq_config_text.specs.ConfigText.{AreWritableNames, fault_from, lines_text, name_lines}
use Rattle.cq_config_text.proofs.config_text.read_names.Given as goal

-- the lines that are done and what is left are the text, whose fault is in what is left
abbrev pub invariant-loop-rest : goal.invariant-loop-rest
invariant-loop-rest l = record {
  declared : AreWritableNames (texts l.names.items) l.positions.items;
  spelled : l.text ≡ lines_text (name_lines (texts l.names.items) l.positions.items) ++ l.rest;
  checked : fault_from l.number [] l.rest ≡ fault_from l.first [] l.text;
  counted : l.number + length l.rest ≤ l.first + length l.text;
}

abbrev pub decreases-loop-rest : goal.decreases-loop-rest
decreases-loop-rest l = length l.rest
