use Rattle.cq_endpoint.proofs.endpoint.Endpoint.stop.Goals as goal

pub returns-in-Ok : goal.returns-in-Ok
returns-in-Ok c = rw (← c.self.view_is) (record {
  writer = c.into_caller-writer.result;
  ended = rw (← c.in-Ok.ensures.ok) c.into_caller-writer.ensures.ended;
  one = c.meet.new.a;
  other = c.meet.new.b;
  met = rw (← c.into_caller-reader.ensures.value) c.meet.ensures.met;
  stops = c.stop.ensures.stopped;
})
