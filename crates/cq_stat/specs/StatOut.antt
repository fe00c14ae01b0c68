-- What `stat` prints of the files of a folder.
use Rattle.std.specs.Prelude.{◌≡◌, ℕ, List, Bool, IfSome, Option}
use Rattle.cq_folder.specs.Folder.{Files}
use Rattle.cq_files.specs.declared.opening.SavedQueue.{SavedQueue}
use Rattle.cq_files.specs.Queue.{CanBeOpened, HoldQueue, IsLawfulQueue, contents_in}
use Rattle.cq_stat.specs.declared.facts.QueueStat.{QueueStat}
use Rattle.cq_stat.specs.Facts.{IsStat}
use Rattle.cq_stat.specs.StatJson.{text_of}

-- the folder's files are a queue's, which can be opened, and this is said of it
pub record IsFoundIn (files : Option Files) (stat : QueueStat) : Type 0 where
  pub queue : SavedQueue
  pub lawful : IsLawfulQueue queue
  pub held : IfSome files (HoldQueue queue)
  pub openable : CanBeOpened queue.config (contents_in queue)
  pub is : IsStat queue.config (contents_in queue) stat

-- the text is what is said of the queue in the folder's files, as JSON or as lines
pub record IsStatOut (json : Bool) (files : Option Files) (text : List ℕ) : Type 0 where
  pub stat : QueueStat
  pub found : IsFoundIn files stat
  pub text_is : text ≡ text_of json stat
