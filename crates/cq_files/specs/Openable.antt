-- Which queues of a folder can be opened, and why one is not.
use Rattle.std.specs.Prelude.{◌≡◌, ◌⊎◌, IfSome, Option}
use Rattle.cq_folder.specs.Folder.{Files}
use Rattle.cq_text.specs.declared.fault.ToolFault.{ToolFault}
use Rattle.cq_text.specs.declared.fault.ToolFault.TheVariants.{BadContents}
use Rattle.cq_files.specs.declared.opening.SavedQueue.{SavedQueue}
use Rattle.cq_files.specs.FolderFaults.{IsQueueFault}
use Rattle.cq_files.specs.Queue.{CanBeOpened, HoldQueue, IsLawfulQueue, contents_in}

-- the files hold a queue that cannot be opened
pub record HoldsBadContents (files : Files) : Type 0 where
  pub queue : SavedQueue
  pub lawful : IsLawfulQueue queue
  pub held : HoldQueue queue files
  pub bad : ¬ CanBeOpened queue.config (contents_in queue)

-- the files are those of the queue, and it can be opened
pub record HoldOpenable (queue : SavedQueue) (files : Files) : Type 0 where
  pub lawful : IsLawfulQueue queue
  pub held : HoldQueue queue files
  pub openable : CanBeOpened queue.config (contents_in queue)

-- the folder's files are those of the queue, which was read with all its messages and can be opened
pub record IsOpened (files : Option Files) (queue : SavedQueue) : Type 0 where
  pub lawful : IsLawfulQueue queue
  pub held : IfSome files (HoldQueue queue)
  pub whole : queue.contents ≡ contents_in queue
  pub openable : CanBeOpened queue.config queue.contents

-- why a folder's queue is not opened: the folder is at fault, or the queue cannot be opened
abbrev pub IsOpenFault : Files → ToolFault → Type 0
IsOpenFault files fault = ((fault ≡ BadContents) × HoldsBadContents files) ⊎ IsQueueFault files fault
