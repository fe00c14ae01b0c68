-- What is decided of a queue that is opened.
use Rattle.std.proofs.Common.{◌≢◌, ◌≤◌, ℕ, List, arith, inl, inr, max, min, subst, sym}
use Rattle.std.specs.Prelude.{Option, None, Some, IfErr, IfOk, IfSome, Result, Ok, Err, option_map, string_bytes}
use Rattle.cq_cycle.specs.declared.roll.TheConstants.{LAST_CYCLE}
use Rattle.cq_folder.specs.Folder.{Files}
use Rattle.cq_files.specs.Counted.{CountsFaults}
use Rattle.cq_files.specs.Openable.{IsOpenFault, IsOpened}
use Rattle.cq_files.specs.Queue.{CanBeOpened, HoldQueue, contents_in}
use Rattle.cq_files.specs.declared.opening.SavedQueue.{SavedQueue}
use Rattle.cq_model.specs.Settings.{Settings}
use Rattle.cq_model.specs.States.{last_cycle}
use Rattle.cq_model.specs.declared.contents.Contents.{Contents}
use Rattle.cq_model.specs.declared.contents.CycleList.{CycleList}
use Rattle.cq_model.proofs.ContentsLemmas.{last_low}
use Rattle.cq_orders.specs.declared.settings.TrimSettings.{TrimSettings}
use Rattle.cq_text.specs.Faults.{IsDeviceFault}
use Rattle.cq_text.specs.declared.fault.ToolFault.{ToolFault}
use Rattle.cq_text.specs.declared.fault.ToolFault.TheVariants.{BadIndex, BadMoment, WriteFault}
use Rattle.cq_trim.specs.Floors.{IsBeforeFault, raised_floor}
use Rattle.cq_trim.specs.Plans.{Decides, IsDecision, IsDecisionFault, IsUndecided}
use Rattle.cq_trim.specs.declared.planning.Decision.{Decision}

-- a floor that rises in a queue that can be opened is low enough
pub floor_low : (settings : Settings) (contents : Contents) (cycle : ℕ) → CanBeOpened settings contents
    → raised_floor contents cycle ≤ LAST_CYCLE
floor_low settings contents cycle (inl none) =
    let floor = none.2 in
    subst (λ (ls : List CycleList). max contents.floor (min cycle (last_cycle ls)) ≤ LAST_CYCLE) (sym none.0) (omega (arith, floor))
floor_low settings contents cycle (inr lawful) =
    let last = last_low settings contents.lists lawful.held in
    let low = lawful.floor in
    omega (arith, last, low)

-- why the word that was given means no cycle has nothing to do with the device or the writer
pub no_device : (settings : Settings) (word : Option (List ℕ)) (fault : ToolFault) → IsBeforeFault settings word fault
    → (¬ IsDeviceFault fault) × (fault ≢ WriteFault)
no_device settings None fault is = absurd is
no_device settings (Some word) BadIndex is = (λ device. device, λ e. cc)
no_device settings (Some word) BadMoment is = (λ device. device, λ e. cc)
no_device settings (Some word) _ is = absurd is

undecided_device : (wanted : TrimSettings) (settings : Settings) (fault : ToolFault) → IsDecisionFault wanted settings fault
    → (¬ IsDeviceFault fault) × (fault ≢ WriteFault)
undecided_device wanted settings fault (inl memory) =
    subst (λ (f : ToolFault). (¬ IsDeviceFault f) × (f ≢ WriteFault)) (sym memory) (λ device. device, λ e. cc)
undecided_device wanted settings fault (inr is) = no_device settings (option_map string_bytes wanted.before) fault is

-- a queue that is not opened is not decided on
pub not_decided : (a : Option Files) (wanted : TrimSettings) (fault : ToolFault) → IfSome a (λ files. IsOpenFault files fault)
    → IfSome a (λ files. IsUndecided wanted files fault)
not_decided None wanted fault cause = tt
not_decided (Some files) wanted fault cause = inl cause

module _ (a : Option Files) (wanted : TrimSettings) (queue : SavedQueue) (result : Result Decision ToolFault)
    (opened : IsOpened a queue) where
  can_whole : CanBeOpened queue.config (contents_in queue)
  can_whole = subst (CanBeOpened queue.config) opened.whole opened.openable

  pub decided : IfOk result (IsDecision wanted queue.config queue.contents queue.images.items) → IfOk result (Decides wanted a)
  decided is = by result is
    where
      by : (r : Result Decision ToolFault) → IfOk r (IsDecision wanted queue.config queue.contents queue.images.items) → IfOk r (Decides wanted a)
      by (Ok decision) is = record {
        queue = queue;
        lawful = opened.lawful;
        held = opened.held;
        openable = can_whole;
        decided = subst (λ (contents : Contents). IsDecision wanted queue.config contents queue.images.items decision) opened.whole is;
      }
      by (Err fault) is = tt

  pub undecided : IfErr result (IsDecisionFault wanted queue.config) → IfErr result (λ fault. IfSome a (λ files. IsUndecided wanted files fault))
  undecided is = by a opened.held result is
    where
      by : (o : Option Files) → IfSome o (HoldQueue queue) → (r : Result Decision ToolFault) → IfErr r (IsDecisionFault wanted queue.config)
          → IfErr r (λ fault. IfSome o (λ files. IsUndecided wanted files fault))
      by o holds (Ok decision) is = tt
      by None holds (Err fault) is = tt
      by (Some files) holds (Err fault) (inl memory) =
          subst (λ (f : ToolFault). IsUndecided wanted files f) (sym memory) (inl (inr (tt, tt)))
      by (Some files) holds (Err fault) (inr word) = inr (queue, record { lawful = opened.lawful; held = holds; openable = can_whole }, word)

-- no failure is counted for it
pub counts_still : {T : Type 0} (was now : ℕ) (wanted : TrimSettings) (settings : Settings) (result : Result T ToolFault) → was ≤ now
    → IfErr result (IsDecisionFault wanted settings) → CountsFaults was now result
counts_still was now wanted settings (Ok value) later is = record { later = later; device = tt }
counts_still was now wanted settings (Err fault) later is =
    record { later = later; device = λ device. absurd ((undecided_device wanted settings fault is).0 device) }

pub unprinted_still : {T : Type 0} (wanted : TrimSettings) (settings : Settings) (result : Result T ToolFault)
    → IfErr result (IsDecisionFault wanted settings) → IfErr result (λ fault. fault ≢ WriteFault)
unprinted_still wanted settings (Ok value) is = tt
unprinted_still wanted settings (Err fault) is = (undecided_device wanted settings fault is).1
