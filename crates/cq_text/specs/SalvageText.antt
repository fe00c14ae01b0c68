-- The text of `salvage`: a line for each message, and a last line.
use Rattle.std.specs.Prelude.{ℕ, List, [], ◌∷◌, ◌++◌, Option, None, Some, codes}
use Rattle.cq_image.specs.Fault.{fault_text}
use Rattle.cq_image.specs.declared.fault.ImageFault.{ImageFault}
use Rattle.cq_image.specs.declared.found.Salvaged.{Salvaged}
use Rattle.cq_text.specs.Echo.{echo_text}

-- the last line: what is wrong, or that nothing is
abbrev pub last_line : Option ImageFault → List ℕ
last_line None = codes "whole\n"
last_line (Some fault) = fault_text fault ++ 10 ∷ []

-- the messages, each behind its sequence, and the last line
abbrev pub saved_text : Salvaged → List ℕ
saved_text saved = echo_text saved.messages ++ last_line saved.fault
