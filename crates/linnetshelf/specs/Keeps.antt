-- What the calls say that open a queue with a keeper, and make its turns.
use Rattle.std.specs.Prelude.{◌≡◌, ◌≤◌, ◌-◌, ◌^◌, ℕ, Result, Ok, Err, false, length, true}
use Rattle.cq_handle.specs.declared.held.Held.{Held}
use Rattle.cq_handle.specs.declared.held.Held.TheVariants as held
use Rattle.cq_keeper.specs.declared.fault.KeepFault.{KeepFault}
use Rattle.cq_keeper.specs.declared.fault.KeepFault.TheVariants as unkept
use Rattle.cq_kept.specs.Openings.{first_frame}
use Rattle.cq_kept_calls.specs.CallKeepers.{CallKeeperFacts}
use Rattle.cq_kept_calls.specs.Openings.{OpensCalled}
use Rattle.cq_kept_calls.specs.Turns.{SettleSays, TurnSays}
use Rattle.cq_kept_calls.specs.declared.opening.Called.{Called}
use Rattle.cq_log.specs.declared.device.DeviceFault.{DeviceFault}
use Rattle.cq_log.specs.declared.device.DeviceFault.TheVariants.{Failed}
use Rattle.cq_saved.specs.Saved.{CanOpen, SavedFacts}
use Rattle.linnetshelf.specs.Statuses.{number}
use Rattle.linnetshelf.specs.declared.status.Status.{Status}
use Rattle.linnetshelf.specs.declared.status.Status.TheVariants as status

-- what two handles hold
abbrev pub Pair : Type 0
Pair = Held × Held

-- the first endpoint of a queue that holds what is saved was handed out, and its keeper
pub record HandsOutKept (saved : SavedFacts) (endpoint keeper : Held) : Type 0 where
  pub can : ¬ ¬ CanOpen saved
  pub called : Called
  pub opened : OpensCalled saved.settings saved.contents called
  pub endpoint_is : endpoint ≡ held.Endpoint called.endpoint
  pub keeper_is : keeper ≡ held.Keeper called.keeper

-- a queue that was opened was handed out; or memory was refused, and both handles are as they were
abbrev pub HandsOutBoth : Called → Pair → Pair → Status → Type 0
HandsOutBoth called old new status.Done = new ≡ (held.Endpoint called.endpoint, held.Keeper called.keeper)
HandsOutBoth called old new status.OutOfMemory = new ≡ old
HandsOutBoth called old new _ = ⊥

-- what two handles hold after a queue was opened with a keeper; where it was not, they are as they were
abbrev pub KeepsQueue : SavedFacts → Pair → Pair → Status → Type 0
KeepsQueue saved old new status.Done = HandsOutKept saved new.0 new.1
KeepsQueue saved old new status.BadContents = (¬ CanOpen saved) × (new ≡ old)
KeepsQueue saved old new status.LongHead = (2 ^ 32 - 1 ≤ length (first_frame saved.settings saved.contents)) × (new ≡ old)
KeepsQueue saved old new status.OutOfMemory = new ≡ old
KeepsQueue saved old new _ = ⊥

-- a turn was made, or why not; a keeper that has stopped says so, and stays as it is
pub record Turned (old new : CallKeeperFacts) (said : Result Unit KeepFault) : Type 0 where
  pub stopped : old.is_stopped ≡ true → (said ≡ Err (unkept.Stopped Failed)) × (new ≡ old)
  pub says : old.is_stopped ≡ false → TurnSays old new said

-- the same of a settle
pub record Settled (old new : CallKeeperFacts) (said : Result Unit DeviceFault) : Type 0 where
  pub stopped : old.is_stopped ≡ true → (said ≡ Err Failed) × (new ≡ old)
  pub says : old.is_stopped ≡ false → SettleSays old new said

-- what `turn` answers
abbrev pub turn_answer : Result Unit KeepFault → ℕ
turn_answer (Ok u) = number status.Done
turn_answer (Err unkept.OutOfMemory) = number status.OutOfMemory
turn_answer (Err unkept.LongFrame) = number status.LongFrame
turn_answer (Err unkept.Full) = number status.LogFull
turn_answer (Err (unkept.Stopped fault)) = number status.LogStopped

-- what `settle` answers
abbrev pub settle_answer : Result Unit DeviceFault → ℕ
settle_answer (Ok u) = number status.Done
settle_answer (Err fault) = number status.LogStopped
