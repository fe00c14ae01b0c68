use Rattle.std.proofs.Common.{take}
use Rattle.cq_logged.proofs.Seen.{IsFoundIn}
use Rattle.cq_logged.proofs.shown.shown_at.Given as goal

-- what was found is what the files so far show under the name
abbrev pub invariant-loop-file : goal.invariant-loop-file
invariant-loop-file l = IsFoundIn l.found (λ file. file.now.bytes.items) (take l.file-index l.shown) l.name
