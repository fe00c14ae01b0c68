use Rattle.std.proofs.Common.{◌≡◌, ◌∷◌, ◌++◌, ◌∙◌, [], ap, refl, rules}
use Rattle.std.specs.Prelude.{OnErr, OnOk}
use Rattle.cq_log_tests.proofs.Records.{either, replay_synced}
use Rattle.cq_log_tests.specs.declared.torn_file.Change.TheVariants.{Sync}
use Rattle.cq_log_tests.proofs.torn_file.TornFile.settle.Goals as goal

pub invariant_of-self : goal.invariant_of-self
invariant_of-self c =
    let counted = c.count.new.self in
    let same : c.in_ok-file.file.items ≡ counted.file.items = search rules in
    let more : OnOk c.push.result (c.push.new.self.items ≡ counted.changes.items ++ Sync c.in_ok-file.file ∷ []) = search rules in
    let none : OnErr c.push.result (c.push.new.self.items ≡ counted.changes.items) = search rules in
    record { replayed = replay_synced counted.changes.items c.push.new.self.items counted.file.items c.in_ok-file.file counted.replayed same (either c.push.result _ _ more none) }

pub returns-clause-synced : goal.returns-clause-synced
returns-clause-synced c =
    let counted = c.count.new.self in
    let same : c.in_ok-file.file.items ≡ counted.file.items = search rules in (
      Sync c.in_ok-file.file,
      (c.in_ok-file.file, same ∙ ap (λ v. v.items) c.count.ensures.same.0, refl),
      c.in_ok-push.ensures.items ∙ ap (λ v. v.items ++ Sync c.in_ok-file.file ∷ []) c.count.ensures.same.1,
    )
