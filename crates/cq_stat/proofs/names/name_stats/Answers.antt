use Rattle.std.proofs.Common.{◌≡◌, ◌<◌, List, ap, get_or, length, string_bytes, subst, sym, ℕ, ◌∙◌}
use Rattle.std.proofs.lemmas.List.{get_or-map, length-map}
use Rattle.cq_model.specs.Settings.{texts}
use Rattle.cq_stat.specs.Facts.{left_from}
use Rattle.cq_stat.specs.declared.facts.NameStat.{NameStat}
use Rattle.cq_stat.proofs.StepLemmas.{all_more, one_more}
use Rattle.cq_stat.proofs.names.name_stats.Goals as goal

pub loop-i-preserved : goal.loop-i-preserved
loop-i-preserved c =
    let i = c.loop-i.i in
    let names = c.args.names.now in
    let contents = c.args.contents.now in
    let held = c.loop-i.invariant in
    let name = c.index-names-i.result in
    let copied : string_bytes c.in_ok-from_str.field-0 ≡ string_bytes name = c.in_ok-from_str.ensures.ok ∙ c.as_str.ensures.value in
    let named : string_bytes name ≡ get_or (texts names) i (string_bytes name) =
    ap string_bytes c.index-names-i.is ∙ sym (get_or-map string_bytes names i name (string_bytes name) c.loop-i-test.true) in
    let low : i < length (texts names) = subst (λ (n : ℕ). i < n) (sym (length-map names string_bytes)) c.loop-i-test.true in
    let at : c.of_value.result ≡ get_or contents.positions i 0 =
    c.of_value.ensures ∙ ap (λ (positions : List ℕ). get_or positions i 0) c.as_slice-positions.ensures in
    let below : i < length contents.positions = subst (λ (n : ℕ). i < n) (sym c.requires.paired) c.loop-i-test.true in
    record {
      names = one_more (λ (stat : NameStat). string_bytes stat.name) c.loop-i.stats.items c.push.new.self.items _ (texts names) i (string_bytes name)
          c.in_ok-push.ensures.items held.names low (copied ∙ named);
      positions = one_more (λ (stat : NameStat). stat.position) c.loop-i.stats.items c.push.new.self.items _ contents.positions i 0
          c.in_ok-push.ensures.items held.positions below at;
      messages = all_more (λ (stat : NameStat). stat.messages_left ≡ left_from contents stat.position) c.loop-i.stats.items c.push.new.self.items _
          c.in_ok-push.ensures.items held.messages (c.messages_left.ensures ∙ ap (left_from contents) (sym c.of_value.ensures));
    }
