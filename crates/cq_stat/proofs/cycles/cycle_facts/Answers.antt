use Rattle.std.proofs.Common.{◌≡◌, ◌≤◌, arith, List, [], ◌∷◌, ℕ, ap, length, map, subst, sym, ◌∙◌}
use Rattle.std.proofs.lemmas.List.{length-map}
use Rattle.std.specs.List.{AllByRecursion}
use Rattle.std.specs.Prelude.{All}
use Rattle.cq_layout.specs.Layout.{CycleLayout, IsLawfulLayout}
use Rattle.cq_layout.specs.Messages.{IsMessage}
use Rattle.cq_layout.specs.Room.{IsMessageLength, message_limit}
use Rattle.cq_layout.specs.declared.shape.TheConstants.{MAX_MESSAGES}
use Rattle.cq_layout.proofs.Each.{each-all}
use Rattle.cq_model.proofs.Sound.{message_limit-le}
use Rattle.cq_stat.proofs.cycles.cycle_facts.Goals as goal

-- the lengths of messages are lengths of messages
lengths_fit : (messages : List (List ℕ)) → AllByRecursion IsMessage messages → AllByRecursion IsMessageLength (map length messages)
lengths_fit [] all = tt
lengths_fit (message ∷ messages) all = (all.0.0, lengths_fit messages all.1)

-- there are no more of them than a cycle can have
few : (layout : CycleLayout) (messages : List (List ℕ)) (lengths : List ℕ) → IsLawfulLayout layout → length messages ≤ message_limit layout
    → lengths ≡ map length messages → length lengths ≤ MAX_MESSAGES
few layout messages lengths lawful entries are =
    let as_many = ap length are ∙ length-map messages length in
    omega (arith, as_many, entries, message_limit-le layout lawful)

pub needs_in-cells_used-requires-clause-lengths : goal.needs_in-cells_used-requires-clause-lengths
needs_in-cells_used-requires-clause-lengths c =
    let messages = c.args.list.now.messages in
    let lengths : c.as_slice-2.result.now ≡ map length messages =
    c.as_slice-2.ensures.value ∙ c.in_ok-lengths.ensures ∙ ap (map length) c.as_slice.ensures in
    each-all IsMessageLength c.as_slice-2.result.now
    (subst (AllByRecursion IsMessageLength) (sym lengths) (lengths_fit messages c.requires.lawful))

pub lengths_of-requires : goal.lengths_of-requires
lengths_of-requires c =
    let messages = c.args.list.now.messages in
    subst (λ (ms : List (List ℕ)). All IsMessage ms) (sym c.as_slice.ensures) (each-all IsMessage messages c.requires.lawful)

pub needs_in-cells_used-requires-clause-count : goal.needs_in-cells_used-requires-clause-count
needs_in-cells_used-requires-clause-count c =
    few c.args.config.now.layout c.args.list.now.messages c.as_slice-2.result.now c.layout-layout.ensures.lawful.layout c.requires.entries
    (c.as_slice-2.ensures.value ∙ c.in_ok-lengths.ensures ∙ ap (map length) c.as_slice.ensures)

pub sum_of-requires : goal.sum_of-requires
sum_of-requires c =
    few c.args.config.now.layout c.args.list.now.messages c.as_slice-3.result.now c.layout-layout.ensures.lawful.layout c.requires.entries
    (c.as_slice-3.ensures.value ∙ c.in_ok-lengths.ensures ∙ ap (map length) c.as_slice.ensures)
