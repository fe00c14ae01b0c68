use Rattle.std.proofs.Common.{◌≡◌, take, ◌≤◌}
use Rattle.std.specs.Prelude.{IfSome, string_bytes}
use Rattle.std.specs.List.{AllByRecursion}
use Rattle.cq_files.specs.FolderFaults.{IsSmall}
use Rattle.cq_file_commands.proofs.CheckLemmas.{Checking}
use Rattle.cq_file_commands.proofs.checking.check_files.Given as goal

-- the lines of the files so far, all of which are small enough
abbrev pub invariant-loop-i : goal.invariant-loop-i
invariant-loop-i g l = record {
  lines : Checking (g.F.Folder.files l.initial.folder) (g.F.Folder.files l.folder) l.config (take l.i l.files) (string_bytes l.text) l.is_faulty;
  small : IfSome (g.F.Folder.files l.initial.folder) (λ held. AllByRecursion (λ file. IsSmall held l.config (string_bytes file.name)) (take l.i l.files));
  counted : g.F.Folder.failed l.initial.folder ≤ g.F.Folder.failed l.folder;
  inside : g.F.Folder.entered l.folder ≡ g.F.Folder.entered l.initial.folder;
}
