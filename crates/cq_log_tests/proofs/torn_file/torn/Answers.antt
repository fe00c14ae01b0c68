use Rattle.std.proofs.Common.{◌≤◌, arith, length, subst}
use Rattle.std.proofs.lemmas.Result.{IfOk-weaker}
use Rattle.cq_log.specs.Device.{Overwrites}
use Rattle.cq_log.specs.Torn.{torn_over}
use Rattle.cq_log_tests.proofs.torn_file.torn.Goals as goal

pub returns : goal.returns
returns c =
    let reached = c.in_ok-reached.reached.items in
    let within : c.args.at ≤ length c.args.file.now = omega (arith, c.if-at-file.false) in
    IfOk-weaker c.overwritten.result _ _
    (λ left over. torn_over c.args.at (length c.args.bytes.now) c.args.file.now reached left.items within c.in_ok-reached.ensures
    (subst (λ b. Overwrites c.args.file.now c.args.at b left.items) c.deref.ensures.value over))
    c.overwritten.ensures
