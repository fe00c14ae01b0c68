use Rattle.std.proofs.Common.{◌∙◌, Global, List, String, ap, map, string_bytes, sym}
use Rattle.cq_folder.specs.Folder.{is_named}
use Rattle.cq_real_folder.proofs.ListingLemmas.{among, not_among}
use Rattle.cq_real_folder.proofs.record.push_new.Goals as goal

pub returns-then-has_name-clause-added : goal.returns-then-has_name-clause-added
returns-then-has_name-clause-added c =
    let name = c.args.name.now in
    among c.args.names.now.items name
    (ap (λ (names : List (String Global)). is_named names name) (sym c.as_slice.ensures.value) ∙ sym c.has_name.ensures ∙ c.if-has_name.true)

pub returns-clause-added : goal.returns-clause-added
returns-clause-added c =
    let name = c.args.name.now in
    ap (map string_bytes) c.in_ok-push.ensures.items
    ∙ not_among c.args.names.now.items name c.in_ok-from_str.field-0
    (ap (λ (names : List (String Global)). is_named names name) (sym c.as_slice.ensures.value) ∙ sym c.has_name.ensures ∙ c.if-has_name.false)
    c.in_ok-from_str.ensures.ok
