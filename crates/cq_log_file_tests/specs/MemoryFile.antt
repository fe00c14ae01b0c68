-- What a file in memory shows.
use Rattle.std.specs.Prelude.{List}
use Rattle.cq_log_file.specs.Event.{Event}
use Rattle.cq_log_file_tests.specs.declared.memory_file.MemoryFile.{MemoryFile}

-- its calls with their answers, the newest first
abbrev pub events_of : MemoryFile → List Event
events_of file = file.record.events
