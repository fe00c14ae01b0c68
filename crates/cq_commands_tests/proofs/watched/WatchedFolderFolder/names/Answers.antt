use Rattle.std.specs.Prelude.{List, ℕ, string_bytes}
use Rattle.std.specs.Cmp.Lexicographic.{nat_list_eq_equiv}
use Rattle.std.specs.List.Sorted.{IsPermutation}
use Rattle.std.specs.Str.{bytes_eq}
use Rattle.std.proofs.lemmas.List.Sorted.{Contains-permutation, IsPermutation-map, IsPermutation-sym}
use Rattle.std.proofs.lemmas.Map.Keys.{IsDistinct-IsPermutation}
use Rattle.std.proofs.lemmas.Map.Made.{AllPairs-from_IsDistinct, IsDistinct-from_AllPairs}
use Rattle.std.proofs.lemmas.Slice.Eq.{bytes_eq-Decides}
use Rattle.cq_model.specs.Settings.{texts}
use Rattle.cq_folder.specs.Folder.{Files, ListsFiles}
use Rattle.cq_commands_tests.proofs.watched.WatchedFolderFolder.names.Goals as goal

-- names in another order list the same files
listed_so : (names moved : List (List ℕ)) (files : Files) → IsPermutation names moved → ListsFiles names files
    → ListsFiles moved files
listed_so names moved files same listed = record {
  held = λ name has. listed.held name (Contains-permutation moved names name (IsPermutation-sym names moved same) has);
  whole = λ name some. Contains-permutation names moved name same (listed.whole name some);
  once = AllPairs-from_IsDistinct bytes_eq-Decides moved
      (IsDistinct-IsPermutation bytes_eq nat_list_eq_equiv.symm names moved same (IsDistinct-from_AllPairs bytes_eq-Decides names listed.once));
}

pub returns-clause-listed : goal.returns-clause-listed
returns-clause-listed c =
    let names = c.in_ok-names.names.items in
    listed_so (texts names) (texts c.reverse.new.self.items) _
    (IsPermutation-map string_bytes names c.reverse.new.self.items c.reverse.ensures.permutation) c.in_ok-names.ensures.listed
