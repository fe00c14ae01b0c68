-- What a call says that closes a queue.
use Rattle.std.specs.Prelude.{◌≡◌, Result, Err}
use Rattle.cq_endpoint.specs.Closes.{Closes}
use Rattle.cq_endpoint.specs.Endpoints.{EndpointFacts, child}
use Rattle.cq_endpoint.specs.declared.fault.CloseFault.{CloseFault}
use Rattle.cq_endpoint.specs.declared.fault.CloseFault.TheVariants as unclosed
use Rattle.linnetshelf.specs.Makes.{parent_of}

-- nothing of an endpoint changed but what its appender is at, and that a caller was split off
abbrev pub ChangesCloser : EndpointFacts → EndpointFacts → Type 0
ChangesCloser old new = new ≡ record (parent_of old) { work = new.work }

-- what changed of an endpoint that was to close its queue: nothing while it has begun a message
abbrev pub KeepsRest : EndpointFacts → EndpointFacts → Result Unit CloseFault → Type 0
KeepsRest old new (Err unclosed.Writing) = new ≡ old
KeepsRest old new _ = ChangesCloser old new

-- the endpoint closed its queue, or was told why it did not
abbrev pub ClosesQueue : EndpointFacts → EndpointFacts → Result Unit CloseFault → Type 0
ClosesQueue old new result = Closes old.queue old.work (child old.parent) new.work result × KeepsRest old new result
