use Rattle.std.proofs.Common.{◌≡◌, ◌∷◌, ◌++◌, string_bytes, take}
use Rattle.std.specs.List.{flat_map}
use Rattle.cq_model.specs.Settings.{texts}
use Rattle.cq_new.specs.Line.{word_of}
use Rattle.cq_new.proofs.line.init_line.Given as goal

-- the names that were gone through, each after a space
abbrev pub invariant-loop-name : goal.invariant-loop-name
invariant-loop-name l = string_bytes l.line
    ≡ string_bytes l.initial.line ++ flat_map (λ name. 32 ∷ word_of name) (texts (take l.name-index l.settings.names.items))
