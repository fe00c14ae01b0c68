use Rattle.std.proofs.Common.{◌≡◌, List, ℕ, Ok, Err, inl, subst}
use Rattle.std.specs.Prelude.{Result}
use Rattle.std.specs.Result.{IfOk, OnErr}
use Rattle.cq_endpoint.specs.Endpoints.{EndpointFacts}
use Rattle.cq_endpoint.specs.Reads.{TakeIntoSays}
use Rattle.cq_endpoint.specs.declared.answers.TakenInto.{TakenInto}
use Rattle.cq_tail.specs.Names.{NameFails}
use Rattle.cq_tail.specs.declared.error.NoSuchName.{NoSuchName}
use Rattle.linnetshelf.specs.Reads.{TakesName}
use Rattle.linnetshelf.proofs.rooms.take.Goals as goal

-- a take by a name that is text
takes_name : (old new : EndpointFacts) (name room full : List ℕ) (r : Result TakenInto NoSuchName)
    → IfOk r (λ t. TakeIntoSays old.queue old.tailer new.tailer name room full t)
    → OnErr r (NameFails old.queue old.tailer new.tailer name × (full ≡ room)) → TakesName old new name room full r
takes_name old new name room full (Ok t) ok err = ok
takes_name old new name room full (Err e) ok err = (inl err.0, err.1)

pub returns-in-Ok-clause-says : goal.returns-in-Ok-clause-says
returns-in-Ok-clause-says c =
    subst (λ (name : List ℕ). TakesName c.args.endpoint.now c.take_into.new.self name c.args.room.now
    c.take_into.new.room c.take_into.result) c.in-Ok.ensures.cases.0
    (takes_name c.args.endpoint.now c.take_into.new.self _ c.args.room.now c.take_into.new.room c.take_into.result
    c.take_into.ensures.ok c.take_into.ensures.err)
