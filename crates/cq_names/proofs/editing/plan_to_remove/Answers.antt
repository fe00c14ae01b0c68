use Rattle.std.proofs.Common.{ℕ, List, ◌<◌, ap, subst, sym, ◌∙◌}
use Rattle.std.specs.List.{remove}
use Rattle.cq_config_text.specs.ConfigText.{IsTextOf}
use Rattle.cq_model.specs.Settings.{AreLawfulNames, Settings}
use Rattle.cq_names.specs.Edits.{name_line, with_names}
use Rattle.cq_names.proofs.LeftLemmas.{fewer_names, floor_low}
use Rattle.cq_names.proofs.NameLemmas.{fewer_texts, name_out, position_out}
use Rattle.cq_names.proofs.editing.plan_to_remove.Goals as goal

pub with_names-changed-requires : goal.with_names-changed-requires
with_names-changed-requires c =
    subst AreLawfulNames
    (sym (fewer_texts _ _ c.args.place c.args.queue.now.config.names c.remove-name.ensures.items (c.in_ok-names.ensures ∙ c.names.ensures.value)))
    (fewer_names c.args.queue.now.config c.args.place c.names.ensures.lawful c.requires.there)

pub write_config-requires-clause-low : goal.write_config-requires-clause-low
write_config-requires-clause-low c = floor_low c.args.queue.now.config c.args.queue.now.contents c.requires.editable.openable

pub returns : goal.returns
returns c =
    let settings = c.args.queue.now.config in
    let same = c.in_ok-names.ensures ∙ c.names.ensures.value in
    let left = fewer_texts _ _ c.args.place settings.names c.remove-name.ensures.items same in
    let places = c.in_ok-positions.ensures.items ∙ c.as_slice.ensures in
    let positions = c.as_slice-2.ensures.value ∙ c.remove-position.ensures.items ∙ ap (λ (ps : List ℕ). remove ps c.args.place) places in
    let there = subst (λ (n : ℕ). c.args.place < n) (sym c.requires.editable.paired) c.requires.there in
    record {
      config = subst (λ (s : Settings). IsTextOf s (remove c.args.queue.now.contents.positions c.args.place) c.args.queue.now.contents.floor c.in_ok-write_config.field-0.items)
          (c.with_names-changed.ensures ∙ ap (with_names settings) left)
          (subst (λ (ps : List ℕ). IsTextOf c.with_names-changed.result ps c.args.queue.now.contents.floor c.in_ok-write_config.field-0.items) positions
          c.in_ok-write_config.ensures);
      line = c.in_ok-line_of.ensures
          ∙ ap (λ (n : List ℕ). name_line n c.remove-position.result)
          (c.as_str.ensures.value ∙ name_out _ c.args.place c.remove-name.result settings.names same c.requires.there c.remove-name.ensures.value)
          ∙ ap (name_line _) (position_out _ c.args.queue.now.contents.positions c.args.place _ places there c.remove-position.ensures.value);
    }
