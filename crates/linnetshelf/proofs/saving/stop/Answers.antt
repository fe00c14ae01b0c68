use Rattle.std.proofs.Common.{inl, rules}
use Rattle.linnetshelf.proofs.saving.stop.Goals as goal

pub returns-in-Ok : goal.returns-in-Ok
returns-in-Ok c = rw c.in-Endpoint.is (inl (record {
  stopped = c.in-Ok.stopped;
  stops = c.in-Ok.ensures;
  recovers = c.recover.ensures;
}))

pub returns-in-Err : goal.returns-in-Err
returns-in-Err c = search rules
