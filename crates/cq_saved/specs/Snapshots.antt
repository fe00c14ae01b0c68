-- What a copy of a queue is whose endpoints go on.
use Rattle.std.specs.Prelude.{◌≡◌, List, true, length, replicate}
use Rattle.cq_endpoint.specs.Endpoints.{EndpointFacts}
use Rattle.cq_model.specs.Settings.{Settings}
use Rattle.cq_model.specs.States.{AreLawfulContents}
use Rattle.cq_model.specs.declared.contents.Contents.{Contents}
use Rattle.cq_model.specs.declared.contents.CycleList.{CycleList}
use Rattle.cq_model.specs.declared.history.Answer.TheVariants.{Lists}
use Rattle.cq_model.specs.declared.history.Event.TheVariants.{Snapshot}
use Rattle.cq_saved.specs.Saved.{SavedFacts}
use Rattle.cq_shown.specs.Plans.{settings_in}
use Rattle.cq_tail.specs.Tailers.{Answered}

-- these cycles, with each name at 0 and the floor 0
abbrev pub contents_at_start : Settings → List CycleList → Contents
contents_at_start settings ls = record { lists = ls; positions = replicate (length settings.names) 0; floor = 0 }

-- the endpoint took a snapshot, and stays where it is: these are its cycles, with each name at 0 and the floor 0. The last
-- cycle is open, and a queue can be opened with them
pub record IsSnapshot (old new : EndpointFacts) (saved : SavedFacts) : Type 0 where
  pub lists : List CycleList
  pub taken : Answered old.queue old.tailer new.tailer Snapshot (Lists lists) old.tailer.cursor
  pub settings : saved.settings ≡ settings_in old.queue.plan
  pub contents : saved.contents ≡ contents_at_start saved.settings lists
  pub is_open : saved.is_open ≡ true
  pub lawful : AreLawfulContents saved.settings saved.contents
