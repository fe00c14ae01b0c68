-- What the calls say that make, split off, stop and open.
use Rattle.std.specs.Prelude.{◌≡◌, ◌⊎◌, ℕ, List, Result, Ok, Err}
use Rattle.cq_cycle.specs.Cycle.{IsMoment, cycle_of}
use Rattle.cq_endpoint.specs.Endpoints.{EndpointFacts, IsFirst, child, endpoint_of, split_once}
use Rattle.cq_endpoint.specs.Stops.{StopsQueue}
use Rattle.cq_handle.specs.declared.held.Held.{Held}
use Rattle.cq_handle.specs.declared.held.Held.TheVariants as held
use Rattle.cq_model.specs.Settings as model
use Rattle.cq_model.specs.States.{created}
use Rattle.cq_saved.specs.Saved.{CanOpen, IsRecovered, SavedFacts, saved_new}
use Rattle.cq_shown.specs.Plans.{reopened}
use Rattle.cq_shown.specs.Stopping.{StoppedFacts}
use Rattle.linnetshelf.specs.Asked.{IsAsked, IsNotMade}
use Rattle.linnetshelf.specs.declared.settings.Settings.{Settings}
use Rattle.linnetshelf.specs.declared.status.Status.{Status}
use Rattle.linnetshelf.specs.declared.status.Status.TheVariants as status

-- what is handed out stands in the place of what was there; or memory was refused, and that stays
abbrev pub HandsOut : Held → Held → Held → Status → Type 0
HandsOut old it new how = ((how ≡ status.Done) × (new ≡ it)) ⊎ ((how ≡ status.OutOfMemory) × (new ≡ old))

-- the first endpoint of a new queue, as it was asked for
pub record IsMade (s : Settings) (text : List ℕ) (moment : ℕ) (e : EndpointFacts) : Type 0 where
  pub settings : model.Settings
  pub asked : IsAsked s text settings
  pub first : IsFirst settings (created settings (cycle_of settings.roll settings.epoch moment)) e

-- a moment in no cycle of the queue that was asked for
pub record HasNoCycle (s : Settings) (text : List ℕ) (moment : ℕ) : Type 0 where
  pub settings : model.Settings
  pub asked : IsAsked s text settings
  pub none : ¬ IsMoment settings.roll settings.epoch moment

-- why no queue was made
abbrev pub FailsToMake : Settings → List ℕ → ℕ → Status → Type 0
FailsToMake s text moment how = IsNotMade s text how ⊎ ((how ≡ status.BadMoment) × HasNoCycle s text moment)

-- a queue was made as it was asked for, or why not
abbrev pub Makes : Settings → List ℕ → ℕ → Result EndpointFacts Status → Type 0
Makes s text moment (Ok e) = IsMade s text moment e
Makes s text moment (Err how) = FailsToMake s text moment how

-- the first endpoint of a new queue was handed out, as it was asked for
pub record HandsOutFirst (s : Settings) (text : List ℕ) (moment : ℕ) (new : Held) : Type 0 where
  pub endpoint : EndpointFacts
  pub made : IsMade s text moment endpoint
  pub new_is : new ≡ held.Endpoint endpoint

-- a queue was made, and its first endpoint handed out; or nothing was
abbrev pub Creates : Settings → List ℕ → ℕ → Held → Held → Status → Type 0
Creates s text moment old new how = ((how ≡ status.Done) × HandsOutFirst s text moment new)
    ⊎ (FailsToMake s text moment how × (new ≡ old))

-- the endpoint that split another one off
abbrev pub parent_of : EndpointFacts → EndpointFacts
parent_of e = record e { parent = split_once e.parent }

-- an endpoint was split off, and handed out; or memory was refused, and none was handed out
abbrev pub Splits : EndpointFacts → EndpointFacts → Held → Held → Status → Type 0
Splits old new before after status.Done =
    (new ≡ parent_of old) × (after ≡ held.Endpoint (endpoint_of old.queue (child old.parent)))
Splits old new before after status.OutOfMemory = ((new ≡ old) ⊎ (new ≡ parent_of old)) × (after ≡ before)
Splits old new before after _ = ⊥

-- what a stopped queue held is read out of it; or memory was refused, and it stays stopped
abbrev pub Recovers : StoppedFacts → Held → Status → Type 0
Recovers stopped (held.Saved saved) status.Done = IsRecovered stopped saved
Recovers stopped (held.Stopped now) status.OutOfMemory = now ≡ stopped
Recovers stopped _ _ = ⊥

-- a queue was stopped by its last endpoint, and what it held was read out of it
pub record StopsAndRecovers (e : EndpointFacts) (new : Held) (how : Status) : Type 0 where
  pub stopped : StoppedFacts
  pub stops : StopsQueue e stopped
  pub recovers : Recovers stopped new how

-- what `stop` makes of what a handle holds. One that was stopped, and not read for want of memory, is read
abbrev pub StopsHeld : Held → Held → Status → Type 0
StopsHeld (held.Endpoint e) new how =
    StopsAndRecovers e new how ⊎ ((how ≡ status.InUse) × (new ≡ held.Endpoint e))
StopsHeld (held.Stopped stopped) new how = Recovers stopped new how
StopsHeld (held.Saved saved) new how = (how ≡ status.WrongKind) × (new ≡ held.Saved saved)
StopsHeld (held.Keeper keeper) new how = (how ≡ status.WrongKind) × (new ≡ held.Keeper keeper)
StopsHeld (held.Shelf user) new how = (how ≡ status.WrongKind) × (new ≡ held.Shelf user)

-- a queue of no cycle, as it was asked for
pub record IsMadeSaved (s : Settings) (text : List ℕ) (saved : SavedFacts) : Type 0 where
  pub settings : model.Settings
  pub asked : IsAsked s text settings
  pub saved_is : saved ≡ saved_new settings

-- a queue of no cycle was made as it was asked for, or why not
abbrev pub MakesSaved : Settings → List ℕ → Result SavedFacts Status → Type 0
MakesSaved s text (Ok saved) = IsMadeSaved s text saved
MakesSaved s text (Err how) = IsNotMade s text how

-- a queue of no cycle was handed out, as it was asked for
pub record HandsOutSaved (s : Settings) (text : List ℕ) (new : Held) : Type 0 where
  pub settings : model.Settings
  pub asked : IsAsked s text settings
  pub new_is : new ≡ held.Saved (saved_new settings)

-- a queue of no cycle was made and handed out; or nothing was
abbrev pub SavesNew : Settings → List ℕ → Held → Held → Status → Type 0
SavesNew s text old new how =
    ((how ≡ status.Done) × HandsOutSaved s text new) ⊎ (IsNotMade s text how × (new ≡ old))

-- the first endpoint of a queue that holds what is saved was handed out, which can be opened
pub record HandsOutOpened (saved : SavedFacts) (new : Held) : Type 0 where
  pub can : ¬ ¬ CanOpen saved
  pub endpoint : EndpointFacts
  pub first : IsFirst saved.settings (reopened saved.contents) endpoint
  pub new_is : new ≡ held.Endpoint endpoint

-- the first endpoint of a queue that holds what is saved was handed out; or nothing was
abbrev pub Opens : SavedFacts → Held → Held → Status → Type 0
Opens saved old new status.Done = HandsOutOpened saved new
Opens saved old new status.BadContents = (¬ CanOpen saved) × (new ≡ old)
Opens saved old new status.OutOfMemory = new ≡ old
Opens saved old new _ = ⊥
