use Rattle.std.proofs.Common.{◌≡◌, ◌+◌, ◌++◌, ◌∷◌, ◌∙◌, [], Global, List, String, ap, arith, map, string_bytes, subst, sym, take, ℕ}
use Rattle.std.proofs.lemmas.List.{map-append, take_all}
use Rattle.cq_folder.proofs.NamedLemmas.{named, unnamed}
use Rattle.cq_folder.specs.Folder.{ListsFiles, after_writes, is_named, named_file}
use Rattle.cq_folder.specs.declared.storage.NewFile.{NewFile}
use Rattle.cq_model.specs.Settings.{texts}
use Rattle.cq_logged.proofs.Seen.{lists_more, lists_still}
use Rattle.cq_logged.proofs.shown.with_shown.Goals as goal
use Rattle.cq_logged.proofs.shown.with_shown.Goals.{then-not-has_name+in_ok-from_str+in_ok-push, else-not-has_name}

pub loop-file-preserved : goal.loop-file-preserved
loop-file-preserved c files listed =
    let shown = c.args.shown.now in
    let i = c.loop-file.file-index in
    let file = c.file-item.result in
    let names = c.loop-file.all.items in
    let low = c.loop-file-test.true in
    let so_far = c.loop-file.invariant files listed in
    let is : is_named names (string_bytes file.name) ≡ c.has_name.result =
    sym (ap (λ (all : List (String Global)). is_named all (string_bytes file.name)) c.as_slice.ensures.value)
    ∙ sym (ap (λ (name : List ℕ). is_named c.as_slice.result.now name) c.as_str.ensures.value)
    ∙ sym c.has_name.ensures in
    elim c.if-not-has_name.branch [
      | then-not-has_name+in_ok-from_str+in_ok-push w ↦
          let added : texts w.push.new.self.items ≡ texts names ++ string_bytes file.name ∷ [] =
          ap texts w.in_ok-push.ensures.items ∙ map-append string_bytes names (w.in_ok-from_str.field-0 ∷ [])
          ∙ ap (λ (name : List ℕ). texts names ++ name ∷ []) (w.in_ok-from_str.ensures.ok ∙ w.as_str-then-not-has_name.ensures.value) in
          subst (λ all. ListsFiles (texts all.items) (after_writes (map named_file (take (i + 1) shown)) files)) (sym w.all-is)
          (subst (λ (all : List (List ℕ)). ListsFiles all (after_writes (map named_file (take (i + 1) shown)) files)) (sym added)
          (lists_more shown i file low c.file-item.is (texts names) files
          (λ has. unnamed names (string_bytes file.name) (is ∙ w.if-not-has_name.true) has) so_far))
      | else-not-has_name w ↦ subst (λ all. ListsFiles (texts all.items) (after_writes (map named_file (take (i + 1) shown)) files)) (sym w.all-is)
          (lists_still shown i file low c.file-item.is (texts names) files (named names (string_bytes file.name) (is ∙ w.if-not-has_name.false)) so_far)
    ]

pub returns : goal.returns
returns c files listed =
    subst (λ (all : List NewFile). ListsFiles (texts c.loop-file.all.items) (after_writes (map named_file all) files))
    (take_all c.loop-file.file-index c.args.shown.now (omega arith)) (c.loop-file.invariant files listed)
