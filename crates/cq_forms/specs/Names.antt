-- The names of cycles.
use Rattle.std.specs.Prelude.{ℕ, ◌==◌, List, [], ◌∷◌, All, if◌then◌else◌, string_bytes}
use Rattle.cq_cycle.specs.Name.{IsName}
use Rattle.cq_cycle.specs.declared.roll.Roll.{Roll}
use Rattle.cq_model.specs.declared.contents.CycleList.{CycleList}
use Rattle.cq_forms.specs.declared.names.CycleName.{CycleName}

-- the name of a cycle among these; no text where it is none of them
abbrev pub name_in : List CycleName → ℕ → List ℕ
name_in [] cycle = []
name_in (named ∷ names) cycle = if named.cycle == cycle then string_bytes named.name else name_in names cycle

-- each of these cycles has this name
abbrev pub AreNames : Roll → ℕ → (ℕ → List ℕ) → List CycleList → Type 0
AreNames roll epoch names lists = All (λ list. IsName roll epoch list.cycle (names list.cycle)) lists
