-- What is left of a queue whose names were changed.
use Rattle.std.specs.Prelude.{◌≡◌}
use Rattle.cq_files.specs.declared.opening.SavedQueue.{SavedQueue}
use Rattle.cq_names.specs.Edits.{Edit, with_names}

-- the queue that is left of one: with the names and positions of this edit, and all else as it was
pub record IsLeftOf (queue : SavedQueue) (edit : Edit) (left : SavedQueue) : Type 0 where
  pub config : left.config ≡ with_names queue.config edit.names
  pub positions : left.contents.positions ≡ edit.positions
  pub floor : left.contents.floor ≡ queue.contents.floor
  pub images : left.images.items ≡ queue.images.items
