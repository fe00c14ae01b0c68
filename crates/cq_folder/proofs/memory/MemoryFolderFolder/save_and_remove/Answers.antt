use Rattle.std.proofs.Common.{[], ◌∷◌, ◌++◌, ◌∙◌, ℕ, Global, List, Some, String, map, string_bytes, subst, sym, take}
use Rattle.std.proofs.lemmas.List.{map_push, take_more}
use Rattle.cq_model.specs.Settings.{texts}
use Rattle.cq_folder.specs.Folder.{SavesAndRemoves, named_file}
use Rattle.cq_folder.specs.MemoryFolder.{files_in}
use Rattle.cq_folder.proofs.FolderLemmas.{one_file_fewer}
use Rattle.cq_folder.proofs.memory.MemoryFolderFolder.save_and_remove.Goals as goal

-- the file was removed after those so far
pub loop-name-preserved : goal.loop-name-preserved
loop-name-preserved c =
    let removed = c.args.removed.now in
    let i = c.loop-name.name-index in
    let name = c.name-item.result in
    let old = Some (files_in c.args.self.now) in
    let middle = Some (files_in c.loop-name.self) in
    let new = Some (files_in c.remove.new.self) in
    let files = map named_file c.args.changes.now in
    let gone = subst (λ (bytes : List ℕ). SavesAndRemoves middle new [] (bytes ∷ [])) c.as_str.ensures.value c.remove.ensures.removed in (
      subst (λ (some : List (String Global)). SavesAndRemoves old new files (texts some))
          (sym (take_more removed i name c.loop-name-test.true))
          (subst (λ (one : String Global). SavesAndRemoves old new files (texts (take i removed ++ one ∷ []))) c.name-item.is
          (subst (SavesAndRemoves old new files) (sym (map_push string_bytes (take i removed) name))
          (one_file_fewer old middle new files (texts (take i removed)) (string_bytes name) c.loop-name.invariant.0 gone))),
      c.remove.ensures.failures ∙ c.loop-name.invariant.1,
      c.remove.ensures.inside ∙ c.loop-name.invariant.2,
    )
