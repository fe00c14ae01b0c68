use Rattle.std.proofs.Common.{ℕ, Vec, Global, ◌≡◌, ◌∙◌, ap, arith, rules, string_bytes}
use Rattle.std.proofs.lemmas.Slice.Zip.{either_empty_from_Zip}
use Rattle.std.specs.Iterator.Adapters.{zip_first, zip_second}
use Rattle.std.specs.Slice.Iter.{iter_rest}
use Rattle.cq_model.specs.Settings.{texts}
use Rattle.cq_config_text.specs.ConfigText.{config_text}
use Rattle.cq_config_text.proofs.TextLemmas.{all_written, begun, fits_each, lawful_writable}
use Rattle.cq_config_text.proofs.config_writing.write_config.Goals as goal

pub loop-name-init : goal.loop-name-init
loop-name-init c =
    let pairs = c.into_iter-name-iterator.result in
    let names : texts (iter_rest (zip_first pairs)) ≡ c.args.config.now.names = search rules in
    let places : iter_rest (zip_second pairs) ≡ c.args.positions.now = search rules in
    begun c.args.config.now c.args.positions.now c.args.floor (string_bytes c.in_ok-text.text) (string_bytes c.push_floor.new.text)
    (texts (iter_rest (zip_first pairs))) (iter_rest (zip_second pairs)) c.in_ok-text.ensures c.in_ok-push_floor.ensures names places

pub returns : goal.returns
returns c =
    let left = c.loop-name.name-iterator in
    let ended = either_empty_from_Zip left c.next.new.self c.next.result c.in-None.is c.next.ensures.steps in
    let items : c.into_bytes.result.items ≡ string_bytes c.loop-name.text =
    ap (λ (v : Vec ℕ Global). v.items) c.into_bytes.ensures.value in
    record {
      writable =
          lawful_writable c.args.config.now c.args.positions.now c.args.floor c.names.ensures.lawful c.requires.paired
          (fits_each c.args.positions.now c.type_inv.positions) (omega (arith, c.ranges.floor));
      spelled =
          items
          ∙ all_written (iter_rest (zip_first left)) (iter_rest (zip_second left)) (string_bytes c.loop-name.text)
          (config_text c.args.config.now c.args.positions.now c.args.floor) c.loop-name.invariant ended;
    }
