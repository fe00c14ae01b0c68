-- Faults of a folder, as a call counts them.
use Rattle.std.proofs.Common.{◌≡◌, ◌≢◌, ◌⊎◌, ◌<◌, ◌≤◌, ◌^◌, ◌-◌, ℕ, Err}
use Rattle.cq_folder.specs.Folder.{IsCounted}
use Rattle.cq_folder.specs.declared.storage.FolderFault.{FolderFault}
use Rattle.cq_folder.specs.declared.storage.FolderFault.TheVariants.{Device}

-- a fault that was counted as it must be
pub counted_fault : {T : Type 0} (before now : ℕ) (fault : FolderFault) → before ≤ now
    → (fault ≡ Device → (before < now) ⊎ (before ≡ 2 ^ 64 - 1)) → (fault ≢ Device → now ≡ before)
    → IsCounted {T = T} before now (Err fault)
counted_fault {T} before now fault later device others = record {
  later = later;
  device = λ is. device (cc);
  others = λ other. others (λ is. other (cc));
}
