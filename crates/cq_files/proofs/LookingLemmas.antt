-- Calls that only look at the files of a folder, one after the other.
use Rattle.std.proofs.Common.{◌≡◌, ℕ, ◌≤◌, List, subst, sym}
use Rattle.std.specs.Prelude.{Err, IfErr, IfOk, IfSome, IsErrAnd, Ok, Option, Result}
use Rattle.cq_folder.specs.Folder.{Entered, Files, KeepsFiles}
use Rattle.cq_text.specs.declared.fault.ToolFault.{ToolFault}
use Rattle.cq_text.specs.declared.fault.ToolFault.TheVariants.{OutOfMemory}
use Rattle.cq_text.proofs.FaultLemmas.{passed_on}
use Rattle.cq_text.specs.Faults.{IsDeviceFault}
use Rattle.cq_files.specs.Counted.{CountsFaults}
use Rattle.cq_files.specs.FolderFaults.{HasCause, HoldsConfig, IsFileFault}
use Rattle.cq_files.specs.Looking.{Looks, Stays}
use Rattle.cq_files.proofs.CauseLemmas.{of_any}
use Rattle.cq_files.proofs.CountLemmas.{counts_from, counts_passed, counts_scarce, uncounted}
use Rattle.cq_files.proofs.QueueLemmas.{keeps-trans}

-- a call that is done
pub looks_done : {T : Type 0} {IsFault : ToolFault → Type 0} {IsCause : Files → ToolFault → Type 0} {before after : Option Files}
    {was now : ℕ} {value : T} → KeepsFiles before after → was ≤ now → Looks IsFault IsCause before after was now (Ok value)
looks_done kept later = record { kept = kept; counted = record { later = later; device = tt }; fault = tt; cause = tt }

-- a fault is passed on
pub looks_passed : {T U : Type 0} {IsFault : ToolFault → Type 0} {IsCause : Files → ToolFault → Type 0} {before after : Option Files}
    {was now : ℕ} {fault : ToolFault} {result : Result U ToolFault} → IsErrAnd result (λ passed. passed ≡ fault) → KeepsFiles before after
    → CountsFaults {T = T} was now (Err fault) → IsFault fault → IfSome before (λ files. IsCause files fault)
    → Looks IsFault IsCause before after was now result
looks_passed {T} {IsFault} {IsCause} {before} {was} {now} {fault} {result} is kept counts one cause = record {
  kept = kept;
  counted = counts_passed {T = T} was now fault result counts is;
  fault = passed_on result IsFault fault is one;
  cause = passed_on result (λ fault. IfSome before (λ files. IsCause files fault)) fault is cause;
}

-- a fault of no device is passed on, whatever the files hold
pub looks_anyway : {T : Type 0} {IsFault : ToolFault → Type 0} {IsCause : Files → ToolFault → Type 0} {before after : Option Files}
    {was now : ℕ} {result : Result T ToolFault} (fault : ToolFault) → IsErrAnd result (λ passed. passed ≡ fault) → KeepsFiles before after
    → was ≤ now → ¬ IsDeviceFault fault → IsFault fault → ((files : Files) → IsCause files fault)
    → Looks IsFault IsCause before after was now result
looks_anyway {IsCause} {before} fault is kept later other one cause =
    looks_passed {T = ℕ} is kept (uncounted later other) one (of_any before (λ files. IsCause files fault) cause)

-- a call ends as the last one that it makes, after the others
pub looks_after : {T : Type 0} {IsFault : ToolFault → Type 0} {Is Was : Files → ToolFault → Type 0} {before middle after : Option Files}
    {was between now : ℕ} (result : Result T ToolFault) → KeepsFiles before middle → was ≤ between
    → ((fault : ToolFault) → IfSome middle (λ files. Is files fault) → IfSome before (λ files. Was files fault))
    → Looks IsFault Is middle after between now result → Looks IsFault Was before after was now result
looks_after {before} {middle} {after} {was} {between} {now} (Ok value) kept later so looks =
    looks_done (keeps-trans before middle after kept looks.kept) (counts_from was between now (Ok value) later looks.counted).later
looks_after {before} {middle} {after} {was} {between} {now} (Err fault) kept later so looks = record {
  kept = keeps-trans before middle after kept looks.kept;
  counted = counts_from was between now (Err fault) later looks.counted;
  fault = looks.fault;
  cause = so fault looks.cause;
}

-- a file whose read failed is not named either, for want of memory
pub unread_scarce : {S T : Type 0} (IsHeld IsSmall : T → Type 0) (files : S → Option Files) (failed : S → ℕ) (entered : S → Entered)
    (before after : S) (name : List ℕ) (result : Result T ToolFault) → IsErrAnd result (λ passed. passed ≡ OutOfMemory)
    → KeepsFiles (files before) (files after) → failed before ≤ failed after → entered after ≡ entered before → record {
      held : IfOk result IsHeld;
      small : IfOk result IsSmall;
      fault : IfErr result (IsFileFault name);
      cause : IfErr result (λ fault. IfSome (files before) (λ held. HoldsConfig held → HasCause held fault));
      stays : Stays files failed entered before after result;
    }
unread_scarce IsHeld IsSmall files failed entered before after name (Ok value) is kept later inside = absurd is
unread_scarce IsHeld IsSmall files failed entered before after name (Err passed) is kept later inside = record {
  held = tt;
  small = tt;
  fault = subst (IsFileFault name) (sym is) tt;
  cause = subst (λ (f : ToolFault). IfSome (files before) (λ held. HoldsConfig held → HasCause held f)) (sym is)
      (of_any (files before) (λ held. HoldsConfig held → HasCause held OutOfMemory) (λ held there. tt));
  stays = record { kept = kept; counted = counts_scarce (failed before) (failed after) (Err passed) later is; inside = inside };
}
