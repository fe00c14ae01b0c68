-- What two endpoints say that meet.
use Rattle.std.specs.Prelude.{◌≡◌, ⊤, ℕ}
use Rattle.cq_endpoint.specs.Meetings.{EndpointsMet}
use Rattle.cq_handle.specs.declared.held.Held.{Held}
use Rattle.cq_handle.specs.declared.held.Held.TheVariants as held
use Rattle.linnetshelf.specs.Statuses.{number}
use Rattle.linnetshelf.specs.declared.status.Status.TheVariants as status

-- where both handles hold an endpoint, those are of one queue
abbrev pub AreOfOneQueue : Held → Held → Type 0
AreOfOneQueue (held.Endpoint one) (held.Endpoint two) = two.queue ≡ one.queue
AreOfOneQueue _ _ = ⊤

-- two endpoints met; where a handle holds something else, both hold what they held, and the answer is wrong
abbrev pub Meets : Held → Held → Held → Held → ℕ → Type 0
Meets (held.Endpoint one) (held.Endpoint two) (held.Endpoint one_new) (held.Endpoint two_new) result =
    (result ≡ number status.Done) × EndpointsMet one two one_new two_new
Meets (held.Endpoint one) (held.Endpoint two) _ _ result = ⊥
Meets one two one_new two_new result = (result ≡ number status.WrongKind) × ((one_new ≡ one) × (two_new ≡ two))
