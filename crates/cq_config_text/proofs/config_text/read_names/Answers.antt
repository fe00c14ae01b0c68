use Rattle.std.proofs.Common.{◌≡◌, ◌++◌, ◌∷◌, [], ◌∙◌, Some, ap, arith, inl, inr, refl, string_bytes, sym, length, rules}
use Rattle.std.specs.Prelude.{option_map}
use Rattle.std.proofs.lemmas.List.{map_push}
use Rattle.cq_model.specs.Settings.{texts}
use Rattle.cq_config_text.specs.ConfigText.{fault_from}
use Rattle.cq_config_text.specs.declared.config_fault.ConfigFault.TheVariants.{Line, OutOfMemory}
use Rattle.cq_config_text.proofs.FaultLemmas.{names_unread, no_fault_at_end}
use Rattle.cq_config_text.proofs.TextLemmas.{at_end, one_name_more, writable_names_more}
use Rattle.cq_config_text.proofs.config_text.read_names.Goals as goal

pub loop-rest-preserved : goal.loop-rest-preserved
loop-rest-preserved c =
    let old = c.loop-rest.invariant in
    let taken = c.in_ok-declared.ensures in
    let name = c.in_ok-declared.declared.name.now in
    let position = c.in_ok-declared.declared.position in
    let more : texts c.push.new.self.items ≡ texts c.loop-rest.names.items ++ name ∷ [] =
    ap texts c.in_ok-push.ensures.items ∙ map_push string_bytes c.loop-rest.names.items c.in_ok-from_str.field-0
    ∙ ap (λ text. texts c.loop-rest.names.items ++ text ∷ []) c.in_ok-from_str.ensures.ok in
    let placed = c.in_ok-push-2.ensures.items in
    record {
      declared =
          writable_names_more (texts c.loop-rest.names.items) (texts c.push.new.self.items) c.loop-rest.positions.items
          c.push-in-loop-rest.new.self.items name position more placed old.declared.paired old.declared taken.found.1
          taken.found.0;
      spelled =
          one_name_more (texts c.loop-rest.names.items) (texts c.push.new.self.items) c.loop-rest.positions.items
          c.push-in-loop-rest.new.self.items name position more placed old.declared.paired c.args.text.now
          c.loop-rest.rest.now c.in_ok-declared.behind.now old.spelled taken.found.2;
      checked = sym taken.next ∙ old.checked;
      counted = omega (arith, old.counted, taken.shorter);
    }

pub returns-clause-found : goal.returns-clause-found
returns-clause-found c =
    let empty : length c.loop-rest.rest.now ≡ 0 = search rules in
    at_end c.args.text.now _ c.loop-rest.rest.now c.loop-rest.invariant.spelled empty

pub returns-clause-whole : goal.returns-clause-whole
returns-clause-whole c =
    let empty : length c.loop-rest.rest.now ≡ 0 = search rules in
    sym c.loop-rest.invariant.checked ∙ no_fault_at_end c.loop-rest.rest.now empty c.loop-rest.number

pub returns-in_err-declared : goal.returns-in_err-declared
returns-in_err-declared c =
    let faulty = fault_from c.args.first [] c.args.text.now in
    let told = c.in_err-declared.ensures.fault in
    names_unread _ _ faulty c.from_residual.result c.in_err-declared.field-0.0 c.from_residual.ensures.1
    (inr (ap (option_map (λ line. Line line)) (sym c.loop-rest.invariant.checked ∙ told.1) ∙ ap Some (sym told.0)))

pub returns-in_err-from_str : goal.returns-in_err-from_str
returns-in_err-from_str c =
    names_unread _ _ (fault_from c.args.first [] c.args.text.now) c.from_residual-in_err-from_str.result OutOfMemory
    c.from_residual-in_err-from_str.ensures.1 (inl refl)

pub returns-in_err-push : goal.returns-in_err-push
returns-in_err-push c =
    names_unread _ _ (fault_from c.args.first [] c.args.text.now) c.from_residual-in_err-push.result OutOfMemory
    c.from_residual-in_err-push.ensures.1 (inl refl)

pub returns-in_err-push-2 : goal.returns-in_err-push-2
returns-in_err-push-2 c =
    names_unread _ _ (fault_from c.args.first [] c.args.text.now) c.from_residual-in_err-push-2.result OutOfMemory
    c.from_residual-in_err-push-2.ensures.1 (inl refl)
