use Rattle.std.proofs.Common.{◌≡◌, ◌<◌, ◌≤◌, Global, List, String, get_or, length, rules, string_bytes}
use Rattle.std.specs.Prelude.{not}
use Rattle.std.proofs.lemmas.Fn.{filter_same}
use Rattle.cq_folder.specs.Folder.{is_named}
use Rattle.cq_real_folder.proofs.ListingLemmas.{all_saved, saved_more}
use Rattle.cq_real_folder.proofs.record.Record.apply.Goals as goal

pub loop-name-preserved : goal.loop-name-preserved
loop-name-preserved c =
    let saved : List (String Global) = c.args.self.now.names.items in
    let i = c.loop-name.name-index in
    let below : i < length saved = search rules in
    let item : c.name-item.result ≡ get_or saved i c.name-item.result = search rules in
    saved_more _ saved i c.loop-name.names.items c.loop-name.invariant c.name-item.result c.as_str.result.now c.push_new.new.names.items
    below item c.as_str.ensures.value c.in_ok-push_new.ensures.added

pub returns-clause-done : goal.returns-clause-done
returns-clause-done c =
    let saved : List (String Global) = c.args.self.now.names.items in
    let removed : List (String Global) = c.args.self.now.removed.items in
    let past : length saved ≤ c.loop-name.name-index = search rules in
    all_saved _ saved c.loop-name.name-index c.loop-name.names.items c.loop-name.invariant removed c.retain.new.self.items past
    (filter_same _ (λ name. not (is_named removed (string_bytes name))) _ (λ x b f' k. search rules) _ _ c.retain.ensures.filtered)
