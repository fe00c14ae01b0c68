use Rattle.std.proofs.Common.{sym, ◌∙◌}
use Rattle.std.specs.Str.Parse.{ExplainsUnsignedError, HasUnsignedDigitsIfOk, ParsesUnsigned}
use Rattle.clap.specs.Words.{found_of}
use Rattle.clap.proofs.WalkLemmas.{one_text-rows}
use Rattle.cq_command_line.proofs.OrderLemmas.{number_read}
use Rattle.cq_command_line.proofs.orders.number.Goals as goal

pub returns-in-Some : goal.returns-in-Some
returns-in-Some c =
    let same = one_text-rows (found_of c.args.values.now) c.args.name.now in
    let read = number_read (λ word r. ParsesUnsigned 64 10 word r × ExplainsUnsignedError 10 word r × HasUnsignedDigitsIfOk word r) _ c.get_one.result
    c.in-Some.given (λ word gives. (gives.0.0.0, gives.0.1)) c.get_one.ensures.none c.get_one.ensures.value c.in-Some.is in
    (read.0, sym same ∙ read.1, read.2, read.3)
