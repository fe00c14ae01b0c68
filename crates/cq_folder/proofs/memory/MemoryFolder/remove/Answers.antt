use Rattle.std.proofs.Common.{◌∙◌, None, Vec, Global, ap, option_map, ℕ}
use Rattle.std.specs.BTreeMap.{get_by_text}
use Rattle.std.specs.Str.{bytes_eq}
use Rattle.std.proofs.lemmas.Map.Text.{btree_map_updates_text}
use Rattle.cq_folder.proofs.FolderLemmas.{seen-removal}
use Rattle.cq_folder.proofs.memory.MemoryFolder.remove.Goals as goal

pub returns-clause-removed : goal.returns-clause-removed
returns-clause-removed c = λ q.
    let is = btree_map_updates_text c.args.name.now c.args.self.now.files c.remove.new.self None c.remove.ensures.updates q in
    let view = λ (v : Vec ℕ Global). v.items in
    ap (option_map view) is ∙ seen-removal view (bytes_eq c.args.name.now q) (get_by_text c.args.self.now.files q)
