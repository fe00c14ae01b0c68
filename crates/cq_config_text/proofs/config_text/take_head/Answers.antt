use Rattle.std.proofs.Common.{refl, lit<, ◌≡◌, ◌∙◌, ◌++◌, ◌∷◌, [], List, ℕ, ap, codes, drop, sym}
use Rattle.cq_model.specs.Settings.{Settings}
use Rattle.cq_config_text.specs.ConfigText.{IsWritable, fault_from, faulty_line, floor_forms, head_forms, head_lines, line_at, line_of, lines_text, setting_words}
use Rattle.cq_origin.specs.Origins.{origin_of}
use Rattle.cq_layout.specs.Version.{store_in, version_of, version_word}
use Rattle.cq_layout.specs.declared.version.FolderVersion.{FolderVersion}
use Rattle.cq_cycle.specs.RollWord.{roll_word}
use Rattle.cq_config_text.specs.Written.{settings_in}
use Rattle.cq_config_text.proofs.FaultLemmas.{line_refused}
use Rattle.cq_config_text.proofs.SpellingLemmas.{line_behind_head}
use Rattle.cq_config_text.proofs.TextLemmas.{line_before, none_declared, version_kept}
use Rattle.cq_config_text.proofs.config_text.take_head.Goals as goal

pub returns-clause-found : goal.returns-clause-found
returns-clause-found c =
    let settings : Settings = settings_in (record {
      version = c.in_ok-version.version;
      roll = c.in_ok-roll.roll;
      epoch = c.in_ok-epoch.epoch;
      cells = c.in_ok-cells.cells;
      index_count = c.in_ok-index_count.index_count;
      index_spacing = c.in_ok-index_spacing.index_spacing;
      cycles = c.in_ok-cycles.cycles;
    }) [] in
    let text = c.args.text.now in
    let rest = c.in_ok-cycles.rest.now in
    let kept : version_of settings.layout.store ≡ c.in_ok-version.version =
    version_kept c.in_ok-version.version c.in_ok-roll.roll c.in_ok-epoch.epoch in
    let lines : List (List (List ℕ)) = head_lines settings in
    line_before (codes "cq" ∷ version_word (version_of settings.layout.store) ∷ []) (drop 1 lines) text
    c.in_ok-version.rest.now rest
    (c.in_ok-version.ensures.found ∙ ap (λ (v : FolderVersion). line_of (codes "cq" ∷ version_word v ∷ []) ++ 10
    ∷ c.in_ok-version.rest.now) (sym kept))
    (line_before (codes "roll" ∷ roll_word c.in_ok-roll.roll ∷ []) (drop 2 lines) c.in_ok-version.rest.now
    c.in_ok-roll.rest.now rest c.in_ok-roll.ensures.found
    (line_before (setting_words (codes "epoch") c.in_ok-epoch.epoch) (drop 3 lines) c.in_ok-roll.rest.now
    c.in_ok-epoch.rest.now rest c.in_ok-epoch.ensures.found.1
    (line_before (setting_words (codes "cells") c.in_ok-cells.cells) (drop 4 lines) c.in_ok-epoch.rest.now
    c.in_ok-cells.rest.now rest c.in_ok-cells.ensures.found.1
    (line_before (setting_words (codes "count") c.in_ok-index_count.index_count) (drop 5 lines) c.in_ok-cells.rest.now
    c.in_ok-index_count.rest.now rest c.in_ok-index_count.ensures.found.1
    (line_before (setting_words (codes "spacing") c.in_ok-index_spacing.index_spacing) (drop 6 lines)
    c.in_ok-index_count.rest.now c.in_ok-index_spacing.rest.now rest c.in_ok-index_spacing.ensures.found.1
    (line_before (setting_words (codes "cycles") c.in_ok-cycles.cycles) [] c.in_ok-index_spacing.rest.now
    c.in_ok-cycles.rest.now rest c.in_ok-cycles.ensures.found.1 refl))))))

pub returns-clause-next : goal.returns-clause-next
returns-clause-next c =
    let settings : Settings = settings_in (record {
      version = c.in_ok-version.version;
      roll = c.in_ok-roll.roll;
      epoch = c.in_ok-epoch.epoch;
      cells = c.in_ok-cells.cells;
      index_count = c.in_ok-index_count.index_count;
      index_spacing = c.in_ok-index_spacing.index_spacing;
      cycles = c.in_ok-cycles.cycles;
    }) [] in
    let text = c.args.text.now in
    let rest = c.in_ok-cycles.rest.now in
    let kept : version_of settings.layout.store ≡ c.in_ok-version.version =
    version_kept c.in_ok-version.version c.in_ok-roll.roll c.in_ok-epoch.epoch in
    let writable : IsWritable settings [] 0 = record {
      epoch = c.in_ok-epoch.ensures.found.0;
      cells = c.in_ok-cells.ensures.found.0;
      count = c.in_ok-index_count.ensures.found.0;
      spacing = c.in_ok-index_spacing.ensures.found.0;
      cycles = c.in_ok-cycles.ensures.found.0;
      low = lit< tt;
      declared = none_declared;
      store = ap (λ (v : FolderVersion). store_in v (origin_of c.in_ok-roll.roll c.in_ok-epoch.epoch)) (sym kept);
    } in
    let found : text ≡ lines_text (head_lines settings) ++ rest = returns-clause-found c in
    let forms = floor_forms (line_at text 7) in
    c.in_ok-version.ensures.next (drop 1 head_forms ++ forms)
    ∙ c.in_ok-roll.ensures.next (drop 2 head_forms ++ forms)
    ∙ c.in_ok-epoch.ensures.next (drop 3 head_forms ++ forms)
    ∙ c.in_ok-cells.ensures.next (drop 4 head_forms ++ forms)
    ∙ c.in_ok-index_count.ensures.next (drop 5 head_forms ++ forms)
    ∙ c.in_ok-index_spacing.ensures.next (drop 6 head_forms ++ forms)
    ∙ c.in_ok-cycles.ensures.next forms
    ∙ ap (λ (line : List ℕ). fault_from 8 (floor_forms line) rest) (line_behind_head settings [] 0 writable text rest found)

pub returns-in_err-version-clause-fault : goal.returns-in_err-version-clause-fault
returns-in_err-version-clause-fault c =
    let forms = floor_forms (line_at c.args.text.now 7) in
    line_refused c.from_residual.result c.in_err-version.field-0.0 1 (faulty_line c.args.text.now) c.from_residual.ensures.1 c.in_err-version.ensures.fault.0
    (c.in_err-version.ensures.fault.1 (drop 1 head_forms ++ forms))

pub returns-in_err-roll-clause-fault : goal.returns-in_err-roll-clause-fault
returns-in_err-roll-clause-fault c =
    let forms = floor_forms (line_at c.args.text.now 7) in
    line_refused c.from_residual-in_err-roll.result c.in_err-roll.field-0.0 2 (faulty_line c.args.text.now) c.from_residual-in_err-roll.ensures.1 c.in_err-roll.ensures.fault.0
    (c.in_ok-version.ensures.next (drop 1 head_forms ++ forms)
    ∙ c.in_err-roll.ensures.fault.1 (drop 2 head_forms ++ forms))

pub returns-in_err-epoch-clause-fault : goal.returns-in_err-epoch-clause-fault
returns-in_err-epoch-clause-fault c =
    let forms = floor_forms (line_at c.args.text.now 7) in
    line_refused c.from_residual-in_err-epoch.result c.in_err-epoch.field-0.0 3 (faulty_line c.args.text.now) c.from_residual-in_err-epoch.ensures.1 c.in_err-epoch.ensures.fault.0
    (c.in_ok-version.ensures.next (drop 1 head_forms ++ forms)
    ∙ c.in_ok-roll.ensures.next (drop 2 head_forms ++ forms)
    ∙ c.in_err-epoch.ensures.fault.1 (drop 3 head_forms ++ forms))

pub returns-in_err-cells-clause-fault : goal.returns-in_err-cells-clause-fault
returns-in_err-cells-clause-fault c =
    let forms = floor_forms (line_at c.args.text.now 7) in
    line_refused c.from_residual-in_err-cells.result c.in_err-cells.field-0.0 4 (faulty_line c.args.text.now) c.from_residual-in_err-cells.ensures.1 c.in_err-cells.ensures.fault.0
    (c.in_ok-version.ensures.next (drop 1 head_forms ++ forms)
    ∙ c.in_ok-roll.ensures.next (drop 2 head_forms ++ forms)
    ∙ c.in_ok-epoch.ensures.next (drop 3 head_forms ++ forms)
    ∙ c.in_err-cells.ensures.fault.1 (drop 4 head_forms ++ forms))

pub returns-in_err-index_count-clause-fault : goal.returns-in_err-index_count-clause-fault
returns-in_err-index_count-clause-fault c =
    let forms = floor_forms (line_at c.args.text.now 7) in
    line_refused c.from_residual-in_err-index_count.result c.in_err-index_count.field-0.0 5 (faulty_line c.args.text.now) c.from_residual-in_err-index_count.ensures.1 c.in_err-index_count.ensures.fault.0
    (c.in_ok-version.ensures.next (drop 1 head_forms ++ forms)
    ∙ c.in_ok-roll.ensures.next (drop 2 head_forms ++ forms)
    ∙ c.in_ok-epoch.ensures.next (drop 3 head_forms ++ forms)
    ∙ c.in_ok-cells.ensures.next (drop 4 head_forms ++ forms)
    ∙ c.in_err-index_count.ensures.fault.1 (drop 5 head_forms ++ forms))

pub returns-in_err-index_spacing-clause-fault : goal.returns-in_err-index_spacing-clause-fault
returns-in_err-index_spacing-clause-fault c =
    let forms = floor_forms (line_at c.args.text.now 7) in
    line_refused c.from_residual-in_err-index_spacing.result c.in_err-index_spacing.field-0.0 6 (faulty_line c.args.text.now) c.from_residual-in_err-index_spacing.ensures.1 c.in_err-index_spacing.ensures.fault.0
    (c.in_ok-version.ensures.next (drop 1 head_forms ++ forms)
    ∙ c.in_ok-roll.ensures.next (drop 2 head_forms ++ forms)
    ∙ c.in_ok-epoch.ensures.next (drop 3 head_forms ++ forms)
    ∙ c.in_ok-cells.ensures.next (drop 4 head_forms ++ forms)
    ∙ c.in_ok-index_count.ensures.next (drop 5 head_forms ++ forms)
    ∙ c.in_err-index_spacing.ensures.fault.1 (drop 6 head_forms ++ forms))

pub returns-in_err-cycles-clause-fault : goal.returns-in_err-cycles-clause-fault
returns-in_err-cycles-clause-fault c =
    let forms = floor_forms (line_at c.args.text.now 7) in
    line_refused c.from_residual-in_err-cycles.result c.in_err-cycles.field-0.0 7 (faulty_line c.args.text.now) c.from_residual-in_err-cycles.ensures.1 c.in_err-cycles.ensures.fault.0
    (c.in_ok-version.ensures.next (drop 1 head_forms ++ forms)
    ∙ c.in_ok-roll.ensures.next (drop 2 head_forms ++ forms)
    ∙ c.in_ok-epoch.ensures.next (drop 3 head_forms ++ forms)
    ∙ c.in_ok-cells.ensures.next (drop 4 head_forms ++ forms)
    ∙ c.in_ok-index_count.ensures.next (drop 5 head_forms ++ forms)
    ∙ c.in_ok-index_spacing.ensures.next (drop 6 head_forms ++ forms)
    ∙ c.in_err-cycles.ensures.fault.1 forms)
