-- What a file of which one call fails shows.
use Rattle.std.specs.Prelude.{List}
use Rattle.cq_log_file.specs.Event.{Event}
use Rattle.cq_log_file_tests.specs.declared.failing_file.FailingFile.{FailingFile}

-- its calls with their answers, the newest first
abbrev pub events_of : FailingFile → List Event
events_of file = file.record.events
