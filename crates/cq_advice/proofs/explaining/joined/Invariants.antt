use Rattle.std.proofs.Common.{◌≡◌, ◌∷◌, ◌++◌, string_bytes, take}
use Rattle.std.specs.List.{flat_map}
use Rattle.cq_model.specs.Settings.{texts}
use Rattle.cq_advice.proofs.explaining.joined.Given as goal

-- the first word and those that were gone through
abbrev pub invariant-loop-word : goal.invariant-loop-word
invariant-loop-word l =
    string_bytes l.given ≡ string_bytes l.initial.given ++ flat_map (λ more. 32 ∷ more) (texts (take l.word-index l.more))
