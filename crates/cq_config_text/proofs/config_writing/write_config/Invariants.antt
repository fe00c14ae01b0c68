use Rattle.std.proofs.Common.{◌≡◌, ◌++◌, string_bytes}
use Rattle.std.specs.Iterator.Adapters.{zip_first, zip_second}
use Rattle.std.specs.Slice.Iter.{iter_rest}
use Rattle.cq_model.specs.Settings.{texts}
use Rattle.cq_config_text.specs.ConfigText.{config_text, lines_text, name_lines}
use Rattle.cq_config_text.proofs.config_writing.write_config.Given as goal

-- what is written, and the lines of the names that are left, are the whole
abbrev pub invariant-loop-name : goal.invariant-loop-name
invariant-loop-name l =
    string_bytes l.text
    ++ lines_text (name_lines (texts (iter_rest (zip_first l.name-iterator))) (iter_rest (zip_second l.name-iterator)))
    ≡ config_text l.config l.positions l.floor
