-- How an endpoint goes from one queue of a shelf to another.
use Rattle.std.specs.Prelude.{Bool, true, false, ◌≡◌, ◌<◌, ℕ, ◌+◌, MatchResult, Result, suc}
use Rattle.std.specs.Arc.{arc_value}
use Rattle.cq_endpoint.specs.Endpoints.{EndpointFacts, child, endpoint_of, split_once}
use Rattle.cq_row.specs.Faults.{IsStepFault}
use Rattle.cq_row.specs.declared.fault.ShelfFault.{ShelfFault}
use Rattle.cq_row.specs.declared.fault.ShelfFault.TheVariants.{OutOfMemory}
use Rattle.cq_row.specs.declared.place.Place.{Place}
use Rattle.cq_row.specs.declared.place.Step.{Step}
use Rattle.cq_row.specs.declared.place.Step.TheVariants as step
use Rattle.cq_row.specs.declared.row.Row.{Row}
use Rattle.cq_model.specs.declared.history.Answer.TheVariants.{Ends}
use Rattle.cq_model.specs.declared.history.Event.TheVariants.{End}
use Rattle.cq_tail.specs.Tailers.{Answered, TailerFacts}
use Rattle.cq_model.specs.declared.direction.Direction.TheVariants.{Backwards}
use Rattle.cq_words.specs.Values.{CallerFacts}

-- an endpoint that has made no call yet: it has begun no message, and reads forwards from the start
pub record IsFresh (e : EndpointFacts) : Type 0 where
  pub caller : CallerFacts
  pub is : e ≡ endpoint_of e.queue caller

-- a place of this row is at the queue with this number, from its start
pub record Enters (row : Row) (n : ℕ) (p : Place) : Type 0 where
  pub row_is : arc_value p.row ≡ row
  pub number : p.number ≡ n
  pub fresh : IsFresh p.endpoint

-- a place from which this one was split off: that is at the same queue, by an endpoint that was split off the one here once, and
-- nothing else changed here
pub record HasSplit (old new made : Place) : Type 0 where
  pub row_is : arc_value made.row ≡ arc_value old.row
  pub made_is : made ≡ record old { row = made.row; endpoint = endpoint_of old.endpoint.queue (child old.endpoint.parent) }
  pub rest : new ≡ record old { endpoint = record old.endpoint { parent = split_once old.endpoint.parent } }

-- nothing was split off, since memory was refused, and nothing changed
abbrev pub SplitsNot : Place → Place → ShelfFault → Type 0
SplitsNot old new fault = (fault ≡ OutOfMemory) × (new ≡ old)

-- where a step to the next queue led
abbrev pub GoesOn : Place → Step → Place → Type 0
GoesOn old step.Next new = Enters (arc_value old.row) (suc old.number) new
GoesOn old (step.Skipped n) new = (0 < n) × Enters (arc_value old.row) (suc old.number + n) new
GoesOn old step.NotBegun new = new ≡ old
GoesOn old step.Ended new = new ≡ old

-- a step, a move or a read elsewhere failed for this reason, and the place stayed where it was
abbrev pub StaysThere : Place → Place → ShelfFault → Type 0
StaysThere old new fault = (new ≡ old) × IsStepFault fault

-- what a step to the next queue returned
abbrev pub StepsOn : Place → Place → Result Step ShelfFault → Type 0
StepsOn old new said = MatchResult said (λ step. GoesOn old step new) (StaysThere old new)

-- a place of this row is at the queue with this number, at its end, and reads backwards from there
pub record EntersEnd (row : Row) (n : ℕ) (p : Place) : Type 0 where
  pub row_is : arc_value p.row ≡ row
  pub number : p.number ≡ n
  pub begun : EndpointFacts
  pub fresh : IsFresh begun
  pub tailer : TailerFacts
  pub says : Answered begun.queue begun.tailer tailer End (Ends tailer.cursor) tailer.cursor
  pub is : p.endpoint ≡ record begun { tailer = record tailer { direction = Backwards } }

-- where a step to the queue before led, if it led there
abbrev pub GoesBack : Place → Bool → Place → Type 0
GoesBack old false new = new ≡ old
GoesBack old true new = (number : ℕ) × (old.number ≡ suc number) × EntersEnd (arc_value old.row) number new
