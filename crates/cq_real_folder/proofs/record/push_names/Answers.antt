use Rattle.std.proofs.Common.{◌≡◌, ◌++◌, ◌<◌, ◌≤◌, get_or, length, rules, string_bytes}
use Rattle.cq_real_folder.proofs.RecordLemmas.{name_more, names_ended}
use Rattle.cq_real_folder.proofs.record.push_names.Goals as goal

pub loop-name-preserved : goal.loop-name-preserved
loop-name-preserved c =
    let names = c.args.names.now in
    let below : c.loop-name.name-index < length names = search rules in
    let item : c.name-item.result ≡ get_or names c.loop-name.name-index c.name-item.result = search rules in
    let named : string_bytes c.push_str.new.self ≡ string_bytes c.loop-name.text ++ string_bytes c.name-item.result = search rules in
    name_more (string_bytes c.args.text.now) names c.loop-name.name-index (string_bytes c.loop-name.text) c.loop-name.invariant c.name-item.result
    (string_bytes c.push_str.new.self) _ below item named c.in_ok-push_str-2.ensures.bytes

pub returns : goal.returns
returns c =
    let names = c.args.names.now in
    let past : length names ≤ c.loop-name.name-index = search rules in
    names_ended (string_bytes c.args.text.now) names c.loop-name.name-index (string_bytes c.loop-name.text) c.loop-name.invariant past
