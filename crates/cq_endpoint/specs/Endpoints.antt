-- What contracts see of an endpoint, and which endpoints are new.
use Rattle.std.specs.Prelude.{◌≡◌}
use Rattle.cq_endpoint.specs.Works.{writer_of}
use Rattle.cq_endpoint.specs.declared.work.Work.{Work}
use Rattle.cq_endpoint.specs.declared.work.Work.TheVariants as work
use Rattle.cq_model.specs.Settings.{Settings}
use Rattle.cq_model.specs.declared.history.State.{State}
use Rattle.cq_tail.specs.Tailers.{TailerFacts, tailer_facts}
use Rattle.cq_model.specs.declared.direction.Direction.TheVariants.{Forwards}
use Rattle.cq_words.specs.Steps.{child_of, parent_of}
use Rattle.cq_words.specs.Values.{Begins, CallerFacts, IsOf, QueueFacts}

-- an endpoint: its queue, what its appender is at, its tailer, and the caller from which others are split off
pub record EndpointFacts : Type 0 where
  pub queue : QueueFacts
  pub work : Work
  pub tailer : TailerFacts
  pub parent : CallerFacts

-- an endpoint, from these
abbrev pub endpoint_facts : QueueFacts → Work → TailerFacts → CallerFacts → EndpointFacts
endpoint_facts queue work tailer parent = record { queue = queue; work = work; tailer = tailer; parent = parent }

-- all callers of an endpoint are of its queue
pub record IsEndpoint (e : EndpointFacts) : Type 0 where
  pub writer : IsOf e.queue (writer_of e.work)
  pub reader : IsOf e.queue e.tailer.caller
  pub parent : IsOf e.queue e.parent

-- nothing of an endpoint changed but what its appender is at
abbrev pub ChangesWork : EndpointFacts → EndpointFacts → Type 0
ChangesWork old new = new ≡ record old { work = new.work }

-- nothing of an endpoint changed but its tailer
abbrev pub ChangesTailer : EndpointFacts → EndpointFacts → Type 0
ChangesTailer old new = new ≡ record old { tailer = new.tailer }

-- a caller that is split off from this one
abbrev pub child : CallerFacts → CallerFacts
child v = record v { view = child_of v.view }

-- this caller, once one is split off from it
abbrev pub split_once : CallerFacts → CallerFacts
split_once v = record v { view = parent_of v.view }

-- the endpoint in the place of this caller: an appender that has begun nothing and a tailer at the start are split off from it
abbrev pub endpoint_of : QueueFacts → CallerFacts → EndpointFacts
endpoint_of queue v = endpoint_facts queue (work.Idle (child v)) (tailer_facts (child (split_once v)) 0 Forwards)
    (split_once (split_once v))

-- the first endpoint of a new queue, which begins in this state
pub record IsFirst (settings : Settings) (state : State) (e : EndpointFacts) : Type 0 where
  pub caller : CallerFacts
  pub begins : Begins settings state e.queue caller
  pub is : e ≡ endpoint_of e.queue caller
