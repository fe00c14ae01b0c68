use Rattle.std.proofs.Common.{◌≡◌, List, [], ℕ, map, subst, string_bytes}
use Rattle.std.specs.Prelude.{IfErr, OnErr}
use Rattle.cq_files.specs.FolderFaults.{TellsFile}
use Rattle.cq_files.specs.Saved.{first_file}
use Rattle.cq_folder.specs.Folder.{KeepsOrWrites, WritesFile, named_file}
use Rattle.cq_folder.specs.declared.storage.NewFile.{NewFile}
use Rattle.cq_repair.proofs.SaveLemmas.{cut_then}
use Rattle.cq_repair.proofs.keeping.carry_out.Goals as goal

pub returns-clause-cut_short : goal.returns-clause-cut_short
returns-clause-cut_short g c =
    let before = g.F.Folder.files c.args.folder.now in
    let middle = g.F.Folder.files c.write_file.new.folder in
    let after = g.F.Folder.files c.save_files.new.folder in
    let plan = c.args.plan.now in
    let named = subst (λ (name : List ℕ). WritesFile before middle name c.as_slice.result.now) c.as_str.ensures.value c.in_ok-write_file.ensures.written in
    let wrote = subst (λ (bytes : List ℕ). WritesFile before middle (string_bytes plan.old.name) bytes) c.as_slice.ensures.value named in
    let whole = subst (λ (files : List NewFile). OnErr c.save_files.result (KeepsOrWrites middle after (map named_file files))) c.as_slice-2.ensures.value
    c.save_files.ensures.whole in
    let first = subst (λ (files : List NewFile). IfErr c.save_files.result (TellsFile (λ (name : List ℕ). name ≡ first_file [] (map named_file files)))) c.as_slice-2.ensures.value
    c.save_files.ensures.first in
    cut_then c.save_files.result before middle after (named_file plan.old) _ (map named_file plan.changes.items) wrote
    c.save_files.ensures.save first c.save_files.ensures.unprinted c.save_files.ensures.scarce whole
