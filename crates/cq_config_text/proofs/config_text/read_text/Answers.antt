use Rattle.std.proofs.Common.{[]}
use Rattle.cq_config_text.specs.ConfigText.{floor_lines, head_lines, name_lines}
use Rattle.cq_config_text.specs.Written.{settings_in}
use Rattle.cq_model.specs.Settings.{texts}
use Rattle.cq_config_text.proofs.TextLemmas.{parts_joined}
use Rattle.cq_config_text.proofs.config_text.read_text.Goals as goal

pub returns-clause-found : goal.returns-clause-found
returns-clause-found c =
    let head = c.in_ok-wanted.ensures in
    let floored = c.take_floor-floored in
    let names = c.in_ok-declared.declared in
    record {
      writable = record {
        epoch = head.writable.epoch;
        cells = head.writable.cells;
        count = head.writable.count;
        spacing = head.writable.spacing;
        cycles = head.writable.cycles;
        low = floored.ensures.found.0;
        declared = c.in_ok-declared.ensures.writable;
        store = head.writable.store;
      };
      spelled =
          parts_joined (head_lines (settings_in c.in_ok-wanted.wanted [])) (floor_lines floored.result.floor)
          (name_lines (texts names.names.items) names.positions.items) c.args.text.now c.in_ok-wanted.rest.now
          floored.result.rest.now head.found floored.ensures.found.1 c.in_ok-declared.ensures.found;
    }
