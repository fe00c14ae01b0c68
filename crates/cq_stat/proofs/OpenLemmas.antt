-- A folder's queue of which something is said.
use Rattle.std.proofs.Common.{◌≡◌, inl, inr, refl, subst, ◌∙◌}
use Rattle.std.specs.Prelude.{List, ℕ, Bool, IfSome, None, Option, Some}
use Rattle.cq_folder.specs.Folder.{Files}
use Rattle.cq_files.specs.declared.opening.SavedQueue.{SavedQueue}
use Rattle.cq_files.specs.Openable.{IsOpenFault, IsOpened}
use Rattle.cq_files.specs.Queue.{CanBeOpened}
use Rattle.cq_model.specs.declared.contents.Contents.{Contents}
use Rattle.cq_text.specs.declared.fault.ToolFault.{ToolFault}
use Rattle.cq_text.specs.declared.fault.ToolFault.TheVariants.{WriteFault}
use Rattle.cq_stat.specs.declared.facts.QueueStat.{QueueStat}
use Rattle.cq_stat.specs.Facts.{IsStat}
use Rattle.cq_stat.specs.StatFaults.{IsStatFault}
use Rattle.cq_stat.specs.StatJson.{text_of}
use Rattle.cq_stat.specs.StatOut.{IsFoundIn, IsStatOut}

-- what is said of the queue that the files hold
pub found_in : (a : Option Files) (queue : SavedQueue) (stat : QueueStat) → IsOpened a queue
    → IsStat queue.config queue.contents stat → IsFoundIn a stat
found_in a queue stat opened is = record {
  queue = queue;
  lawful = opened.lawful;
  held = opened.held;
  openable = subst (CanBeOpened queue.config) opened.whole opened.openable;
  is = subst (λ (contents : Contents). IsStat queue.config contents stat) opened.whole is;
}

-- the text of what is said
pub stat_out : (json : Bool) (a : Option Files) (stat : QueueStat) (text made : List ℕ) → IsFoundIn a stat → text ≡ made
    → made ≡ text_of json stat → IsStatOut json a text
stat_out json a stat text made found same is = record { stat = stat; found = found; text_is = same ∙ is }

-- why nothing is said
pub not_said : (json : Bool) (a : Option Files) (fault : ToolFault) → IfSome a (λ files. IsOpenFault files fault)
    → IfSome a (λ files. IsStatFault json files fault)
not_said json None fault cause = tt
not_said json (Some files) fault cause = inl cause

-- what is said is not written
pub not_written : (json : Bool) (a : Option Files) (text : List ℕ) → IsStatOut json a text
    → IfSome a (λ files. IsStatFault json files WriteFault)
not_written json None text out = tt
not_written json (Some files) text out = inr (refl, (text, out))
