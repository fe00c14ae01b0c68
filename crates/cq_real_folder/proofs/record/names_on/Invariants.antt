use Rattle.std.proofs.Common.{◌≡◌, ◌++◌, length}
use denote.Shadow.{shadow}
use denote.Text.{Utf8}
use Rattle.cq_real_folder.specs.Record.{AreFileNames, name_text}
use Rattle.cq_real_folder.proofs.record.names_on.Given as goal

-- the names so far are those of files, and with the text that is left they are all
abbrev pub invariant-loop-line : goal.invariant-loop-line
invariant-loop-line l = AreFileNames l.names.items × (l.text ≡ name_text l.names.items ++ l.rest) × shadow (Utf8 l.rest)

abbrev pub decreases-loop-line : goal.decreases-loop-line
decreases-loop-line l = length l.rest
