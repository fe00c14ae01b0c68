use Rattle.std.proofs.Common.{◌++◌, ◌∷◌, [], List, ap, subst, sym, ◌∙◌, ℕ}
use Rattle.cq_config_text.specs.ConfigText.{IsTextOf}
use Rattle.cq_model.specs.Settings.{AreLawfulNames, Settings}
use Rattle.cq_names.specs.Edits.{with_names}
use Rattle.cq_names.proofs.LeftLemmas.{added_names, floor_low}
use Rattle.cq_names.proofs.NameLemmas.{pushed_texts}
use Rattle.cq_names.proofs.editing.plan_to_add.Goals as goal

pub with_names-changed-requires : goal.with_names-changed-requires
with_names-changed-requires c =
    subst AreLawfulNames
    (sym (pushed_texts _ _ _ c.args.queue.now.config.names c.args.name.now c.in_ok-push.ensures.items (c.in_ok-names.ensures ∙ c.names.ensures.value)
    c.in_ok-from_str.ensures.ok))
    (added_names c.args.queue.now.config c.args.name.now c.names.ensures.lawful c.requires.new)

pub write_config-requires-clause-low : goal.write_config-requires-clause-low
write_config-requires-clause-low c = floor_low c.args.queue.now.config c.args.queue.now.contents c.requires.editable.openable

pub returns : goal.returns
returns c =
    let settings = c.args.queue.now.config in
    let contents = c.args.queue.now.contents in
    let position = c.args.position in
    let names = pushed_texts _ _ _ settings.names c.args.name.now c.in_ok-push.ensures.items (c.in_ok-names.ensures ∙ c.names.ensures.value)
    c.in_ok-from_str.ensures.ok in
    let places = c.in_ok-positions.ensures.items ∙ c.as_slice.ensures in
    let positions = c.as_slice-2.ensures.value ∙ c.in_ok-push-2.ensures.items ∙ ap (λ (ps : List ℕ). ps ++ position ∷ []) places in
    record {
      config = subst (λ (s : Settings). IsTextOf s (contents.positions ++ position ∷ []) contents.floor c.in_ok-write_config.field-0.items)
          (c.with_names-changed.ensures ∙ ap (with_names settings) names)
          (subst (λ (ps : List ℕ). IsTextOf c.with_names-changed.result ps contents.floor c.in_ok-write_config.field-0.items) positions
          c.in_ok-write_config.ensures);
      line = c.in_ok-line_of.ensures;
    }
