-- What a file whose syncs are counted shows.
use Rattle.std.specs.Prelude.{List}
use Rattle.cq_log_file.specs.Event.{Event}
use Rattle.cq_store_bench.specs.declared.counted_file.CountedFile.{CountedFile}

-- its calls with their answers, the newest first
abbrev pub events_of : CountedFile → List Event
events_of file = file.record.events
