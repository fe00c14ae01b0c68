-- Queues of a folder that can be opened, and those that cannot.
use Rattle.std.proofs.Common.{◌≡◌, ℕ, inl, inr, refl, subst, sym}
use Rattle.std.specs.Prelude.{◌≢◌, Err, IfErr, IfOk, IfSome, IsErrAnd, None, Ok, OnOk, Option, Result, Some}
use Rattle.cq_folder.specs.Folder.{Entered, Files, KeepsFiles}
use Rattle.cq_folder.specs.declared.storage.Access.{Access}
use Rattle.cq_folder.specs.declared.storage.Access.TheVariants.{Alone, Shared}
use Rattle.cq_files.specs.Counted.{CountsFaults}
use Rattle.cq_files.specs.FolderFaults.{IsQueueFault, MindsVersion}
use Rattle.cq_files.specs.Openable.{HoldOpenable, IsOpenFault, IsOpened}
use Rattle.cq_files.specs.Queue.{CanBeOpened, HoldQueue, IsLawfulQueue, contents_in}
use Rattle.cq_files.specs.declared.opening.SavedQueue.{SavedQueue}
use Rattle.cq_text.specs.declared.fault.ToolFault.{ToolFault}
use Rattle.cq_text.specs.declared.fault.ToolFault.TheVariants.{BadContents, OldVersion, WriteFault}

-- the queue that the files hold cannot be opened
pub bad_contents : (a : Option Files) (queue : SavedQueue) → IsLawfulQueue queue → IfSome a (HoldQueue queue)
    → queue.contents ≡ contents_in queue → ¬ CanBeOpened queue.config queue.contents
    → IfSome a (λ files. IsOpenFault files BadContents)
bad_contents None queue lawful held whole bad = tt
bad_contents (Some files) queue lawful held whole bad = inl (
  refl,
  record {
    queue = queue;
    lawful = lawful;
    held = held;
    bad = λ can. bad (subst (CanBeOpened queue.config) (sym whole) can);
  },
)

-- the queue that the files hold is not read
not_read : (a : Option Files) (fault : ToolFault) → IfSome a (λ files. IsQueueFault files fault)
    → IfSome a (λ files. IsOpenFault files fault)
not_read None fault cause = tt
not_read (Some files) fault cause = inr cause

-- the files hold a queue that was opened
pub opened_in : (files : Files) (queue : SavedQueue) → IsOpened (Some files) queue → HoldOpenable queue files
opened_in files queue opened = record {
  lawful = opened.lawful;
  held = opened.held;
  openable = subst (CanBeOpened queue.config) opened.whole opened.openable;
}

module _ (access : Access) (before after : Option Files) (inside : Entered) where
  -- how opening a queue whole ends
  abbrev Opening : ℕ → ℕ → Result SavedQueue ToolFault → Type 0
  Opening was now result = record {
    opened : IfOk result (IsOpened before);
    cause : IfErr result (λ fault. IfSome before (λ files. IsOpenFault files fault));
    unprinted : IfErr result (λ fault. fault ≢ WriteFault);
    version : access ≡ Alone → IfSome before (λ files. MindsVersion files result);
    shared : access ≡ Shared → IfErr result (λ fault. fault ≢ OldVersion);
    kept : KeepsFiles before after;
    counted : CountsFaults was now result;
    inside : OnOk result (inside ≡ Some access);
  }

  -- with a fault of reading the queue, which is passed on
  pub unopened : {was now : ℕ} {fault : ToolFault} (result : Result SavedQueue ToolFault) → IsErrAnd result (λ passed. passed ≡ fault)
      → IfSome before (λ files. IsQueueFault files fault) → fault ≢ WriteFault
      → (access ≡ Alone → IfSome before (λ files. MindsVersion {T = SavedQueue} files (Err fault))) → (access ≡ Shared → fault ≢ OldVersion)
      → KeepsFiles before after → CountsFaults {T = SavedQueue} was now (Err fault) → Opening was now result
  unopened (Ok queue) is cause unprinted version shared kept counted = absurd is
  unopened {was} {now} {fault} (Err passed) is cause unprinted version shared kept counted =
      subst (λ (f : ToolFault). Opening was now (Err f)) (sym is) (record {
        opened = tt;
        cause = not_read before fault cause;
        unprinted = unprinted;
        version = version;
        shared = shared;
        kept = kept;
        counted = counted;
        inside = tt;
      })
