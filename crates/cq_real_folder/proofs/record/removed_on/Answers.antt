use Rattle.std.proofs.Common.{◌∙◌, None, Some, ap, arith, map, string_bytes}
use Rattle.std.proofs.lemmas.Str.Pattern.{strip_prefix_char}
use Rattle.cq_real_folder.proofs.ReadLemmas.{none_read, removed_read}
use Rattle.cq_real_folder.proofs.record.removed_on.Goals as goal

pub returns-in_ok-names_on-in-Some-clause-only : goal.returns-in_ok-names_on-in-Some-clause-only
returns-in_ok-names_on-in-Some-clause-only c removed are spelled =
    let read = c.in_ok-names_on-in-Some in
    removed_read removed read.field-0.0.items c.args.text.now c.in-Some.lines.now read.field-0.1.now are read.ensures.names read.ensures.no_more
    (strip_prefix_char 10 c.args.text.now (Some c.in-Some.lines) c.in-Some.ensures.cases (omega arith)) read.ensures.all spelled

pub returns-in-None-clause-only : goal.returns-in-None-clause-only
returns-in-None-clause-only c removed are spelled =
    ap (map string_bytes) c.new.ensures.items
    ∙ none_read removed c.args.text.now (strip_prefix_char 10 c.args.text.now None c.in-None.ensures.cases (omega arith)) spelled
