use Rattle.std.proofs.Common.{◌∙◌}
use Rattle.clap.specs.Words.{found_of}
use Rattle.clap.proofs.WalkLemmas.{one_text-rows}
use Rattle.cq_command_line.proofs.orders.flag.Goals as goal

pub returns : goal.returns
returns c =
    let same = one_text-rows (found_of c.args.values.now) c.args.name.now in
    (λ is. c.get_flag.ensures.value (same ∙ is), λ is. c.get_flag.ensures.other (same ∙ is))
