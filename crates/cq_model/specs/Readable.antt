-- The messages of a queue, each with its index.
use Rattle.std.specs.Prelude.{ℕ, ◌+◌, List, [], ◌∷◌, nat_le, filter}
use Rattle.std.specs.List.{flat_map}
use Rattle.cq_cycle.specs.Index.{index_of}
use Rattle.cq_model.specs.declared.contents.Contents.{Contents}
use Rattle.cq_model.specs.declared.contents.CycleList.{CycleList}

-- the messages of a cycle from this sequence on, each with its index
abbrev pub indexed_from : ℕ → ℕ → List (List ℕ) → List (ℕ × List ℕ)
indexed_from cycle sequence [] = []
indexed_from cycle sequence (message ∷ messages) =
    (index_of cycle sequence, message) ∷ indexed_from cycle (sequence + 1) messages

-- all messages of some cycles, each with its index
abbrev pub indexed : List CycleList → List (ℕ × List ℕ)
indexed lists = flat_map (λ l. indexed_from l.cycle 0 l.messages) lists

-- the messages that reads look at, each with its index: those whose cycle is not below the floor
abbrev pub readable : Contents → List (ℕ × List ℕ)
readable contents = filter (λ found. nat_le (index_of contents.floor 0) found.0) (indexed contents.lists)
