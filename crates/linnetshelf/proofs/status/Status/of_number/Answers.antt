use Rattle.std.proofs.Common.{◌≡◌, ◌<◌, Bor, List, ap, get_or, length, map, slice_index_or, sym, zero-add, ℕ, ◌∙◌}
use Rattle.std.specs.List.{range_with_len}
use Rattle.std.proofs.lemmas.List.{get_or-map}
use Rattle.std.proofs.lemmas.List.FromFn.{get_or-range_with_len}
use Rattle.linnetshelf.specs.Statuses.{number}
use Rattle.linnetshelf.specs.declared.status.Status.{Status}
use Rattle.linnetshelf.proofs.status.Status.of_number.Goals as goal

-- where the numbers of some rows count up from 0, the number of a row is its place
place_is : {X : Type 0} (number : X → ℕ) (rows : List X) (place : ℕ) (row : X) → row ≡ slice_index_or rows place row
    → place < length rows → map number rows ≡ range_with_len 0 (length rows) → number row ≡ place
place_is number rows place row at below count_up =
    ap number at ∙ sym (get_or-map number rows place row (number row) below)
    ∙ ap (λ (numbers : List ℕ). get_or numbers place (number row)) count_up
    ∙ get_or-range_with_len 0 (length rows) place (number row) below
    ∙ zero-add place

pub returns-clause-found : goal.returns-clause-found
returns-clause-found c =
    let number_of : Status × Bor (List ℕ) → ℕ = λ row. number row.0 in
    let at = c.in_ok-status.ensures.lookup in
    search (place_is number_of, at)
