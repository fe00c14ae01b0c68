-- What appenders and tailers know of the seal of their queue, once they have looked.
use Rattle.std.specs.Prelude.{◌≡◌, Bool, true, false, []}
use Rattle.cq_layout.specs.declared.refusal.Refusal.{Refusal}
use Rattle.cq_layout.specs.declared.refusal.Refusal.TheVariants as refusal
use Rattle.cq_words.specs.Values.{CallerFacts, GoesOn, QueueFacts}

-- a caller looked whether its queue is sealed: it made no call, and knows then whether it is
pub record Looks (queue : QueueFacts) (v w : CallerFacts) (known : Bool) : Type 0 where
  pub goes_on : GoesOn queue v w []
  pub sealed : w.view.sealed ≡ known

-- an appender that was refused so did not look where its arguments were refused; else it found that the queue is not sealed
abbrev pub FindsOpen : QueueFacts → Refusal → CallerFacts → CallerFacts → Type 0
FindsOpen queue refusal.BadRoom v w = w ≡ v
FindsOpen queue refusal.BadMoment v w = w ≡ v
FindsOpen queue refusal.Busy v w = Looks queue v w false
FindsOpen queue refusal.NoCycleLeft v w = Looks queue v w false
FindsOpen queue refusal.CycleFull v w = Looks queue v w false

-- an appender that was refused so found that the queue is sealed
abbrev pub FindsSealed : QueueFacts → Refusal → CallerFacts → CallerFacts → Type 0
FindsSealed queue refusal.BadRoom v w = ⊥
FindsSealed queue refusal.BadMoment v w = ⊥
FindsSealed queue refusal.Busy v w = Looks queue v w true
FindsSealed queue refusal.NoCycleLeft v w = Looks queue v w true
FindsSealed queue refusal.CycleFull v w = Looks queue v w true

-- what it found
abbrev pub LooksFor : QueueFacts → Refusal → CallerFacts → CallerFacts → Bool → Type 0
LooksFor queue e v w true = FindsSealed queue e v w
LooksFor queue e v w false = FindsOpen queue e v w

-- an appender was refused for this reason, as `refused` says, and the queue was not sealed as it saw it then
pub record RefusedOpen (queue : QueueFacts) (refused : CallerFacts → Refusal → Type 0) (w : CallerFacts) (e : Refusal)
    : Type 0 where
  pub after : CallerFacts
  pub was : refused after e
  pub found : FindsOpen queue e after w

-- an appender was refused for some reason, as `refused` says, and then saw that the queue is sealed
pub record RefusedSealed (queue : QueueFacts) (refused : CallerFacts → Refusal → Type 0) (w : CallerFacts) : Type 0 where
  pub after : CallerFacts
  pub reason : Refusal
  pub was : refused after reason
  pub found : FindsSealed queue reason after w
