-- What the calls say on what is saved of a queue.
use Rattle.std.specs.Prelude.{◌≡◌, ◌↔◌, ℕ, ◌<◌, ◌≤◌, List, Some, None, Result, Ok, Err, length, slice_get, slice_set}
use Rattle.cq_foreign.specs.Copies.{CopiesBytes}
use Rattle.cq_foreign.specs.declared.copying.Copied.{Copied}
use Rattle.cq_model.specs.declared.contents.CycleList.{CycleList}
use Rattle.cq_saved.specs.Saved.{AddsImage, HasEnded, IsImageAt, RefusesImage, SavedFacts, with_contents}
use Rattle.cq_saved.specs.declared.fault.AddFault.{AddFault}
use Rattle.cq_saved.specs.declared.fault.NoSuchPlace.{NoSuchPlace}
use Rattle.linnetshelf.specs.declared.status.Status.{Status}
use Rattle.linnetshelf.specs.declared.status.Status.TheVariants as status

-- a cycle was added from its image, or why not
abbrev pub Adds : SavedFacts → SavedFacts → ℕ → List ℕ → Result Unit AddFault → Type 0
Adds old new cycle bytes (Ok u) = AddsImage old new cycle bytes
Adds old new cycle bytes (Err fault) = RefusesImage old cycle bytes fault × (new ≡ old)

-- cycle `k` has this place; or there are not as many
abbrev pub IsPlaceOf : SavedFacts → ℕ → Result ℕ NoSuchPlace → Type 0
IsPlaceOf saved k (Ok place) = (place ≡ k) × (k < length saved.contents.lists)
IsPlaceOf saved k (Err e) = length saved.contents.lists ≤ k

-- cycle `k` has this number; or there are not as many
abbrev pub TellsCycle : SavedFacts → ℕ → Result ℕ NoSuchPlace → Type 0
TellsCycle saved k (Ok cycle) = (l : CycleList) × (slice_get saved.contents.lists k ≡ Some l) × (cycle ≡ l.cycle)
TellsCycle saved k (Err e) = length saved.contents.lists ≤ k

-- cycle `k` has as many messages; or there are not as many cycles
abbrev pub TellsLength : SavedFacts → ℕ → Result ℕ NoSuchPlace → Type 0
TellsLength saved k (Ok count) =
    (l : CycleList) × (slice_get saved.contents.lists k ≡ Some l) × (count ≡ length l.messages)
TellsLength saved k (Err e) = length saved.contents.lists ≤ k

-- 1 where cycle `k` has ended, and else 0; or there are not as many
abbrev pub TellsEnded : SavedFacts → ℕ → Result ℕ NoSuchPlace → Type 0
TellsEnded saved k (Ok mark) = (mark ≤ 1) × ((mark ≡ 1) ↔ HasEnded saved k)
TellsEnded saved k (Err e) = length saved.contents.lists ≤ k

-- the `k`th name stands at this position; or there are not as many
abbrev pub TellsPosition : SavedFacts → ℕ → Result ℕ NoSuchPlace → Type 0
TellsPosition saved k (Ok position) = slice_get saved.contents.positions k ≡ Some position
TellsPosition saved k (Err e) = slice_get saved.contents.positions k ≡ None

-- the `k`th name stands at this position now; or there are not as many, and nothing changed
abbrev pub PlacesName : SavedFacts → SavedFacts → ℕ → ℕ → Status → Type 0
PlacesName old new k position status.Done = (k < length old.contents.positions)
    × (new ≡ with_contents old (record old.contents { positions = slice_set old.contents.positions k position }))
PlacesName old new k position status.NoSuchPlace = (length old.contents.positions ≤ k) × (new ≡ old)
PlacesName old new k position _ = ⊥

-- the image of cycle `k` was copied to a buffer; or why it was not, and the buffer is as it was
abbrev pub TellsImage : SavedFacts → ℕ → List ℕ → List ℕ → Result Copied Status → Type 0
TellsImage saved k room full (Ok came) = (bytes : List ℕ) × IsImageAt saved k bytes × CopiesBytes bytes room full came
TellsImage saved k room full (Err status.NoSuchPlace) = (length saved.contents.lists ≤ k) × (full ≡ room)
TellsImage saved k room full (Err status.OutOfMemory) = full ≡ room
TellsImage saved k room full (Err _) = ⊥
