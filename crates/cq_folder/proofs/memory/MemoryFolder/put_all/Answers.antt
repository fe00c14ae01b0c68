use Rattle.std.proofs.Common.{[], ◌∷◌, ◌++◌, ◌∙◌, ℕ, List, Some, map, subst, sym, take}
use Rattle.std.proofs.lemmas.List.{map-append, take_more}
use Rattle.cq_folder.specs.Folder.{WritesFile, WritesFiles, named_file}
use Rattle.cq_folder.specs.MemoryFolder.{files_in}
use Rattle.cq_folder.specs.declared.storage.NewFile.{NewFile}
use Rattle.cq_folder.proofs.FolderLemmas.{one_file_more}
use Rattle.cq_folder.proofs.memory.MemoryFolder.put_all.Goals as goal

-- the file was put beside those so far
pub loop-file-preserved : goal.loop-file-preserved
loop-file-preserved c =
    let files = c.args.changes.now in
    let i = c.loop-file.file-index in
    let file = c.file-item.result in
    let old = Some (files_in c.args.self.now) in
    let middle = Some (files_in c.loop-file.copy) in
    let new = Some (files_in c.put.new.self) in
    let wrote = subst (λ (bytes : List ℕ). WritesFile middle new (named_file file).0 bytes) c.as_slice.ensures.value
    (subst (λ (name : List ℕ). WritesFile middle new name c.as_slice.result.now) c.as_str.ensures.value c.in_ok-put.ensures.written) in (
      subst (λ (some : List NewFile). WritesFiles old new (map named_file some))
          (sym (take_more files i file c.loop-file-test.true))
          (subst (λ (one : NewFile). WritesFiles old new (map named_file (take i files ++ one ∷ []))) c.file-item.is
          (subst (WritesFiles old new) (sym (map-append named_file (take i files) (file ∷ [])))
          (one_file_more old middle new (map named_file (take i files)) (named_file file) c.loop-file.invariant.0 wrote))),
      c.put.ensures.failures ∙ c.loop-file.invariant.1,
      c.put.ensures.inside ∙ c.loop-file.invariant.2,
    )
