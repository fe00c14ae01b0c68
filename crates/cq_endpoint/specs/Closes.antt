-- What it says that closes a queue.
use Rattle.std.specs.Prelude.{true, false, ◌≡◌, ◌≢◌, ℕ, ◌+◌, Option, Some, None, Result, Ok, Err}
use Rattle.cq_append.specs.Calls.{HasAdvanced}
use Rattle.cq_append.specs.Writings.{HasBegun, WritingFacts}
use Rattle.cq_cycle.specs.Cycle.{HasCycle, start_of}
use Rattle.cq_endpoint.specs.Looks.{FindsOpen, FindsSealed, Looks, RefusedOpen, RefusedSealed}
use Rattle.cq_endpoint.specs.Works.{RefusesRoom}
use Rattle.cq_endpoint.specs.declared.fault.CloseFault.{CloseFault}
use Rattle.cq_endpoint.specs.declared.fault.CloseFault.TheVariants as unclosed
use Rattle.cq_endpoint.specs.declared.work.Work.{Work}
use Rattle.cq_endpoint.specs.declared.work.Work.TheVariants as work
use Rattle.cq_layout.specs.declared.refusal.Refusal.{Refusal}
use Rattle.cq_layout.specs.declared.refusal.Refusal.TheVariants.{CycleFull, NoCycleLeft}
use Rattle.cq_shown.specs.Plans.{StartsWith, settings_in}
use Rattle.cq_words.specs.Sealing.{SealSet, Sealed}
use Rattle.cq_words.specs.Values.{CallerFacts, IsOf, QueueFacts}

-- the first moment that lies in a cycle: a message for it goes to the current cycle
abbrev pub first_moment : QueueFacts → ℕ
first_moment queue = (settings_in queue.plan).epoch

-- the moment at which the cycle after this one begins
abbrev pub moment_after : QueueFacts → ℕ → ℕ
moment_after queue cycle = start_of (settings_in queue.plan).roll (settings_in queue.plan).epoch (cycle + 1)

-- the queue may have a cycle after this one
abbrev pub HasNext : QueueFacts → ℕ → Type 0
HasNext queue cycle = HasCycle (settings_in queue.plan).roll (settings_in queue.plan).epoch (cycle + 1)

-- for this reason no message of one byte was begun for this moment
abbrev pub RefusesByte : QueueFacts → CallerFacts → ℕ → CallerFacts → Refusal → Type 0
RefusesByte queue v moment w e = RefusesRoom queue v moment 1 w e

-- an appender asked for the current cycle, which was this one
abbrev pub FindsCycle : QueueFacts → CallerFacts → CallerFacts → ℕ → Type 0
FindsCycle queue v w cycle = HasAdvanced queue v (first_moment queue) w cycle

-- an appender asked for the current cycle, and when the cycle after it begins, if the queue may have one
abbrev pub FindsNext : QueueFacts → CallerFacts → CallerFacts → Option ℕ → Type 0
FindsNext queue v w (Some moment) =
    (cycle : ℕ) × FindsCycle queue v w cycle × HasNext queue cycle × (moment ≡ moment_after queue cycle)
FindsNext queue v w None = (cycle : ℕ) × FindsCycle queue v w cycle × (¬ HasNext queue cycle)

-- not one byte fitted into the current cycle, and this is when the one after it begins
pub record IsFull (queue : QueueFacts) (v w : CallerFacts) (next : Option ℕ) : Type 0 where
  pub after : CallerFacts
  pub full : RefusesByte queue v (first_moment queue) after CycleFull
  pub finds : FindsNext queue after w next

-- and then it was found that all cycles have begun
pub record HasAll (queue : QueueFacts) (v w : CallerFacts) : Type 0 where
  pub after : CallerFacts
  pub moment : ℕ
  pub full : IsFull queue v after (Some moment)
  pub none_left : RefusesByte queue after moment w NoCycleLeft

-- how an appender came from v to begin a message at this moment, and which refusal leads on from there: first in the current
-- cycle; where that is full, in the cycle after it; and where all have begun, in the current one again
pub data Tries (queue : QueueFacts) (v w : CallerFacts) (moment : ℕ) (on : Refusal) : Type 0 where
  at_first : w ≡ v → moment ≡ first_moment queue → on ≡ CycleFull → Tries queue v w moment on
  at_next : IsFull queue v w (Some moment) → on ≡ NoCycleLeft → Tries queue v w moment on
  at_again : HasAll queue v w → moment ≡ first_moment queue → on ≡ CycleFull → Tries queue v w moment on

-- no message was begun to seal the queue by, for this reason: each try that it leads to was made
pub data BeginsNone (queue : QueueFacts) (v w : CallerFacts) (e : Refusal) : Type 0 where
  was_refused : (after : CallerFacts) (moment : ℕ) (on : Refusal) → Tries queue v after moment on
      → RefusesByte queue after moment w e → e ≢ on → BeginsNone queue v w e
  has_no_next : IsFull queue v w None → e ≡ CycleFull → BeginsNone queue v w e

-- an appender saw that all cycles have begun, and then that not one byte fits into the last
pub record IsWorn (queue : QueueFacts) (v w : CallerFacts) : Type 0 where
  pub after : CallerFacts
  pub all : HasAll queue v after
  pub full : RefusesByte queue after (first_moment queue) w CycleFull

-- no message can be begun to seal the queue by, for this reason, or none fits any more
pub data NoneBegins (queue : QueueFacts) (v w : CallerFacts) (e : Refusal) : Type 0 where
  is_none : BeginsNone queue v w e → NoneBegins queue v w e
  is_worn : IsWorn queue v w → e ≡ CycleFull → NoneBegins queue v w e

-- an appender began a message of one byte at this moment, and sealed the queue by it; w is what became of the one that was
-- to know
pub record SealsAt (queue : QueueFacts) (v : CallerFacts) (moment : ℕ) (witness w : CallerFacts) : Type 0 where
  pub writing : WritingFacts
  pub begun : HasBegun queue v moment 1 writing
  pub sealed : Sealed writing.caller witness w
  pub of : IsOf queue w

-- an appender sealed a queue that is worn out and was not sealed when it looked
pub record SealsWorn (queue : QueueFacts) (v w : CallerFacts) : Type 0 where
  pub looked : CallerFacts
  pub unsealed : Looks queue v looked false
  pub of : IsOf queue w
  pub sealed : SealSet looked.view w.view
  pub seen_end : w.seen_end ≡ looked.seen_end

-- why an appender that was refused closed nothing: as it was refused, or since it then found the queue sealed
abbrev pub IsCloseFault : QueueFacts → Refusal → CallerFacts → CallerFacts → Result Unit CloseFault → Type 0
IsCloseFault queue e v w (Ok u) = ⊥
IsCloseFault queue e v w (Err unclosed.Writing) = ⊥
IsCloseFault queue e v w (Err unclosed.Closed) = FindsSealed queue e v w
IsCloseFault queue e v w (Err (unclosed.Refused r)) = (r ≡ e) × FindsOpen queue e v w

-- how the queue was sealed: by a message that was begun, and the witness is the appender now; or, where it is worn out, by the
-- appender itself
pub data Seals (queue : QueueFacts) (v witness w : CallerFacts) : Type 0 where
  by_claim : (after : CallerFacts) (moment : ℕ) (on : Refusal) → Tries queue v after moment on
      → SealsAt queue after moment witness w → Seals queue v witness w
  when_worn : (after : CallerFacts) → IsWorn queue v after → SealsWorn queue after w → Seals queue v witness w

-- the queue was closed: the appender knows of the seal, and has seen all that the one before had seen
pub record HasClosed (queue : QueueFacts) (v witness w : CallerFacts) : Type 0 where
  pub knows : w.view.sealed ≡ true
  pub seen : StartsWith w.view.seen v.view.seen
  pub seals : Seals queue v witness w

-- what `close` says of an appender that has begun nothing
abbrev pub ClosesIdle : QueueFacts → CallerFacts → CallerFacts → CallerFacts → Result Unit CloseFault → Type 0
ClosesIdle queue v witness w (Ok u) = HasClosed queue v witness w
ClosesIdle queue v witness w (Err unclosed.Closed) = RefusedSealed queue (λ x r. NoneBegins queue v x r) w
ClosesIdle queue v witness w (Err (unclosed.Refused e)) = RefusedOpen queue (λ x r. BeginsNone queue v x r) w e
ClosesIdle queue v witness w (Err unclosed.Writing) = ⊥

-- what `close` says: while a message is begun it does nothing
abbrev pub Closes : QueueFacts → Work → CallerFacts → Work → Result Unit CloseFault → Type 0
Closes queue (work.Idle v) witness (work.Idle w) result = ClosesIdle queue v witness w result
Closes queue (work.Writing v) witness (work.Writing w) (Err unclosed.Writing) = w ≡ v
Closes queue _ witness _ _ = ⊥
