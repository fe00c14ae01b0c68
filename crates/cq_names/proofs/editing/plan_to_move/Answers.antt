use Rattle.std.proofs.Common.{◌≡◌, List, ap, rules, set, subst, ◌∙◌, ℕ}
use Rattle.cq_config_text.specs.ConfigText.{IsTextOf}
use Rattle.cq_names.specs.Edits.{name_line}
use Rattle.cq_names.proofs.LeftLemmas.{floor_low}
use Rattle.cq_names.proofs.NameLemmas.{name_out}
use Rattle.cq_names.proofs.editing.plan_to_move.Goals as goal

pub write_config-requires-clause-low : goal.write_config-requires-clause-low
write_config-requires-clause-low c = floor_low c.args.queue.now.config c.args.queue.now.contents c.requires.editable.openable

pub returns : goal.returns
returns c =
    let settings = c.args.queue.now.config in
    let contents = c.args.queue.now.contents in
    let place = c.args.place in
    let written : c.as_slice-2.result.now ≡ set c.in_ok-positions.positions.items place c.args.position = search rules in
    let positions = written ∙ ap (λ (ps : List ℕ). set ps place c.args.position) (c.in_ok-positions.ensures.items ∙ c.as_slice.ensures) in
    record {
      config = subst (λ (ps : List ℕ). IsTextOf settings ps contents.floor c.in_ok-write_config.field-0.items) positions c.in_ok-write_config.ensures;
      line = c.in_ok-line_of.ensures
          ∙ ap (λ (name : List ℕ). name_line name c.args.position)
          (c.as_str.ensures.value ∙ name_out _ place c.index-names-place.result settings.names c.names.ensures.value c.requires.there c.index-names-place.is);
    }
