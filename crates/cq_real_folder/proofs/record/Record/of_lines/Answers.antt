use Rattle.std.proofs.Common.{◌≡◌, ◌++◌, ◌∙◌, codes, rules, sym}
use Rattle.cq_real_folder.specs.Record.{removal_text}
use Rattle.cq_real_folder.proofs.ReadLemmas.{one_reading, record_is_text, removals_no_name}
use Rattle.cq_real_folder.proofs.record.Record.of_lines.Goals as goal

pub returns-in_default-clause-only : goal.returns-in_default-clause-only
returns-in_default-clause-only c process names removed lawful spelled =
    c.in_default.ensures.cases.0 (record_is_text process names removed lawful.number c.args.text.now spelled)

pub returns-clause-only : goal.returns-clause-only
returns-clause-only c process names removed lawful spelled =
    let same : c.in-Ok.text.now ≡ c.args.text.now = search rules in
    let parts = c.in-Some.ensures process names removed lawful.number (same ∙ spelled) in
    let read = c.in_ok-names.ensures in
    let reading = one_reading c.in_ok-names.names.items names c.in_ok-names.rest.now (removal_text removed ++ codes "end\n") read.names lawful.files
    read.no_more (removals_no_name removed) (sym read.all ∙ parts.1) in
    record {
      number = parts.0;
      renames = reading.0;
      removals = c.in_ok-removed.ensures.only removed lawful.removals reading.1;
    }
