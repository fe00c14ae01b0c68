use Rattle.std.proofs.Common.{ℕ, List, Vec, Global, String, ◌≡◌, ap, string_bytes}
use Rattle.std.proofs.lemmas.List.Elements.{same_from_all_zip}
use Rattle.std.specs.BTreeMap.{is_at}
use Rattle.std.specs.Cmp.Lexicographic.{slice_cmp}
use Rattle.std.specs.Ordering.{nat_cmp}
use Rattle.cq_folder.proofs.FolderLemmas.{clone_holds}
use Rattle.cq_folder.proofs.memory.MemoryFolder.copied.Goals as goal

pub returns-clause-files : goal.returns-clause-files
returns-clause-files c = λ name.
    clone_holds (λ (one other : String Global). string_bytes other ≡ string_bytes one) _ (λ (v : Vec ℕ Global). v.items)
    (is_at (λ (key : String Global). slice_cmp nat_cmp name (string_bytes key)))
    (λ one other same. ap (λ (bytes : List ℕ). is_at (λ (b : List ℕ). slice_cmp nat_cmp name b) bytes) same)
    (λ v w same. same_from_all_zip _ v.items w.items same.0 (λ x y is. is))
    c.args.self.now.files.entries c.in_ok-clone.field-0.entries c.in_ok-clone.ensures.cases
