use Rattle.std.proofs.Common.{◌≡◌, subst}
use Rattle.cq_append.proofs.WornOut.{worn_told}
use Rattle.cq_append.specs.Calls.{IsRefused}
use Rattle.cq_layout.specs.declared.refusal.Refusal.{Refusal}
use Rattle.cq_layout.specs.declared.refusal.Refusal.TheVariants.{CycleFull, NoCycleLeft}
use Rattle.cq_calls_tests.proofs.queues.sealed_full_text.Goals as goal

pub seal_full-requires-clause-full : goal.seal_full-requires-clause-full
seal_full-requires-clause-full c =
    let none_left : c.in-Err-NoCycleLeft.field-0 ≡ NoCycleLeft = c.in-Err-NoCycleLeft.field-0-is in
    let is_full : c.in-Err-CycleFull.field-0 ≡ CycleFull = c.in-Err-CycleFull.field-0-is in
    worn_told c.args.queue.now c.args.appender.now c.append.new.self c.append-2.new.self c.args.moment 0
    (subst (λ (r : Refusal). IsRefused c.args.queue.now c.args.appender.now c.args.moment 1 c.append.new.self r)
    none_left c.in-Err-NoCycleLeft.ensures.says)
    (subst (λ (r : Refusal). IsRefused c.args.queue.now c.append.new.self 0 1 c.append-2.new.self r)
    is_full c.in-Err-CycleFull.ensures.says)
