use Rattle.std.proofs.Common.{codes, refl, sym}
use Rattle.clap.specs.Words.{found_of}
use Rattle.cq_command_line.proofs.OrderLemmas.{word_found}
use Rattle.cq_command_line.proofs.orders.moment.Goals as goal

pub returns-in-Some-now : goal.returns-in-Some-now
returns-in-Some-now c =
    sym (word_found (found_of c.args.values.now) (codes "MOMENT") c.get_str.result c.in-Some-now.field-0 _ c.get_str.ensures c.in-Some-now.is
    (sym c.in-Some-now.is-now))

pub returns-in_ok-moment_of-in-Some : goal.returns-in_ok-moment_of-in-Some
returns-in_ok-moment_of-in-Some c = (
  c.in-Some.given.now,
  sym (word_found (found_of c.args.values.now) (codes "MOMENT") c.get_str.result c.in-Some.given _ c.get_str.ensures c.in-Some.is refl),
  c.in_ok-moment_of-in-Some.ensures.0,
  c.in_ok-moment_of-in-Some.ensures.1,
)
