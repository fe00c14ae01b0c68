use Rattle.std.proofs.Common.{◌≡◌, ◌++◌, string_bytes, length}
use denote.Text.{Utf8}
use denote.Shadow.{shadow}
use Rattle.cq_new.specs.Line.{quoted}
use Rattle.cq_new.proofs.line.push_quoted.Given as goal

-- what is written, and what is left, are the whole
abbrev pub invariant-loop-front : goal.invariant-loop-front
invariant-loop-front l = shadow (Utf8 l.rest)
    × (string_bytes l.line ++ quoted l.rest ≡ string_bytes l.initial.line ++ quoted l.text)

abbrev pub decreases-loop-front : goal.decreases-loop-front
decreases-loop-front l = length l.rest
