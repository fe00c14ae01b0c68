use Rattle.std.proofs.Common.{◌≡◌, ◌++◌, ◌∷◌, [], List, ℕ, Vec, Global, ap, map, string_bytes, subst, ◌∙◌}
use Rattle.cq_config_text.specs.ConfigText.{IsTextOf}
use Rattle.cq_folder.specs.Folder.{named_file}
use Rattle.cq_folder.specs.declared.storage.NewFile.{NewFile}
use Rattle.cq_folder.specs.declared.names.TheConstants.{CONFIG_FILE}
use Rattle.cq_trim.specs.Trimmed.{raised, same}
use Rattle.cq_trim.proofs.planning.changes_for.Goals as goal
use Rattle.cq_trim.proofs.planning.changes_for.Goals.{then-floor-queue+in_ok-from_str+in_ok-write_config+in_ok-push, else-floor-queue}

-- the one file that is written
one_file : (before after : List NewFile) (wanted : List ℕ) (file : NewFile) → before ≡ [] → after ≡ before ++ file ∷ []
    → string_bytes file.name ≡ wanted → map named_file after ≡ (wanted, file.bytes.items) ∷ []
one_file before after wanted file none is named =
    ap (map named_file) (is ∙ ap (λ (files : List NewFile). files ++ file ∷ []) none)
    ∙ ap (λ (n : List ℕ). (n, file.bytes.items) ∷ []) named

pub returns : goal.returns
returns c = elim c.if-floor-queue.branch [
  | then-floor-queue+in_ok-from_str+in_ok-write_config+in_ok-push w ↦
      raised w.in_ok-write_config.field-0.items w.if-floor-queue.true
      (subst (λ (ps : List ℕ). IsTextOf c.args.queue.now.config ps c.args.floor w.in_ok-write_config.field-0.items) w.as_slice-positions.ensures w.in_ok-write_config.ensures)
      (ap (λ (v : Vec NewFile Global). map named_file v.items) w.changes-is
      ∙ one_file _ _ CONFIG_FILE.now _ c.new-changes.ensures.items w.in_ok-push.ensures.items w.in_ok-from_str.ensures.ok)
  | else-floor-queue w ↦
      same w.if-floor-queue.false
      (ap (λ (v : Vec NewFile Global). map named_file v.items) w.changes-is ∙ ap (map named_file) c.new-changes.ensures.items)
]
