-- What the call says that copies a queue whose endpoints go on.
use Rattle.std.specs.Prelude.{◌≡◌, ◌⊎◌}
use Rattle.cq_endpoint.specs.Endpoints.{EndpointFacts}
use Rattle.cq_handle.specs.declared.held.Held.{Held}
use Rattle.cq_handle.specs.declared.held.Held.TheVariants as held
use Rattle.cq_saved.specs.Saved.{SavedFacts}
use Rattle.cq_saved.specs.Snapshots.{IsSnapshot}
use Rattle.cq_tail.specs.Tailers.{MadeNoCall}
use Rattle.linnetshelf.specs.declared.status.Status.{Status}
use Rattle.linnetshelf.specs.declared.status.Status.TheVariants as status

-- a snapshot was taken, and handed out
pub record HandsOutSnapshot (old new : EndpointFacts) (after : Held) : Type 0 where
  pub saved : SavedFacts
  pub snapshot : IsSnapshot old new saved
  pub new_is : after ≡ held.Saved saved

-- no snapshot was taken, or memory was refused to its handle
abbrev pub LosesSnapshot : EndpointFacts → EndpointFacts → Type 0
LosesSnapshot old new =
    ((new ≡ old) ⊎ MadeNoCall old.queue old.tailer new.tailer) ⊎ ((saved : SavedFacts) × IsSnapshot old new saved)

-- a snapshot was taken and handed out; or memory was refused, and none was handed out
abbrev pub TakesSnapshot : EndpointFacts → EndpointFacts → Held → Held → Status → Type 0
TakesSnapshot old new before after status.Done = HandsOutSnapshot old new after
TakesSnapshot old new before after status.OutOfMemory = LosesSnapshot old new × (after ≡ before)
TakesSnapshot old new before after _ = ⊥
