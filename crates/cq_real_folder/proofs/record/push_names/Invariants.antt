use Rattle.std.proofs.Common.{◌≡◌, ◌++◌, string_bytes, take}
use Rattle.cq_real_folder.specs.Record.{name_text}
use Rattle.cq_real_folder.proofs.record.push_names.Given as goal

-- the names so far are in the text
abbrev pub invariant-loop-name : goal.invariant-loop-name
invariant-loop-name l = string_bytes l.text ≡ string_bytes l.fn.text ++ name_text (take l.name-index l.names)
