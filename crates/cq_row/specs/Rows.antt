-- What a row of queues is made of, and its first place.
use Rattle.std.specs.Prelude.{◌≡◌, ◌≤◌, ℕ, List, Some, length, slice_get, vec_len}
use Rattle.std.specs.Arc.{arc_value}
use Rattle.cq_cycle.specs.Cycle.{cycle_of}
use Rattle.cq_endpoint.specs.Endpoints.{EndpointFacts, IsFirst, child, endpoint_of}
use Rattle.cq_model.specs.Settings.{Settings}
use Rattle.cq_model.specs.States.{created}
use Rattle.cq_row.specs.Faults.{LiesInCycle}
use Rattle.cq_row.specs.Ways.{Enters}
use Rattle.cq_row.specs.declared.place.Place.{Place}
use Rattle.cq_row.specs.declared.row.AtLimit.{AtLimit}
use Rattle.cq_row.specs.declared.row.Row.{Row}

-- the first endpoint of a new queue with these settings, whose first cycle is that of this moment
pub record BeginsAt (settings : Settings) (moment : ℕ) (e : EndpointFacts) : Type 0 where
  pub in_cycle : LiesInCycle settings moment
  pub first : IsFirst settings (created settings (cycle_of settings.roll settings.epoch moment)) e

-- a row of this many places, for queues with these settings
pub record IsRow (settings : Settings) (places : ℕ) (at_limit : AtLimit) (row : Row) : Type 0 where
  pub settings_are : row.config ≡ settings
  pub places_are : vec_len row.spots ≡ places
  pub limit_is : row.at_limit ≡ at_limit
  pub names_are : vec_len row.names ≡ length settings.names

-- a new row, and an endpoint that was split off the first one of its first queue
pub record IsNewRow (settings : Settings) (places : ℕ) (at_limit : AtLimit) (moment : ℕ) (row : Row) (e : EndpointFacts)
    : Type 0 where
  pub enough : 2 ≤ places
  pub is_row : IsRow settings places at_limit row
  pub parent : EndpointFacts
  pub begins : BeginsAt settings moment parent
  pub splits : e ≡ endpoint_of parent.queue (child parent.parent)

-- the first place of a new row
pub record IsFirstPlace (settings : Settings) (places : ℕ) (at_limit : AtLimit) (moment : ℕ) (p : Place) : Type 0 where
  pub made : IsNewRow settings places at_limit moment (arc_value p.row) p.endpoint
  pub starts : p.start ≡ moment
  pub enters : Enters (arc_value p.row) 0 p
