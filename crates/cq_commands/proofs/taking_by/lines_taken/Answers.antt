use Rattle.std.proofs.Common.{◌≡◌, ◌++◌, ◌+◌, Option, arith, rules, subst, sym}
use Rattle.std.specs.Prelude.{IfSome}
use Rattle.cq_model.specs.Journals.{HasTaken}
use Rattle.cq_model.specs.Finds.{Placed}
use Rattle.cq_model.specs.Settings.{Declares, Settings}
use Rattle.cq_commands.specs.Messages.{message_line}
use Rattle.cq_contents.proofs.FewLemmas.{few_in}
use Rattle.cq_commands.proofs.TakingByLemmas.{all_done, none_came, one_came}
use Rattle.cq_commands.proofs.taking_by.lines_taken.Goals as goal

pub messages-init : goal.messages-init
messages-init c = none_came c.args.reader.now c.args.name.now c.args.most _ c.requires.lawful c.requires.declared c.new-lines.ensures.items

pub next_taken-requires : goal.next_taken-requires
next_taken-requires c = subst (λ (s : Settings). Declares s c.args.name.now) (sym c.messages.invariant.at.settings) c.requires.declared

pub messages-smaller : goal.messages-smaller
messages-smaller c =
    let fewer = subst (λ (o : Option Placed). IfSome o (λ one. c.next_taken.new.left + 1 ≡ c.messages.left)) c.in-Some.is c.in_ok-index.ensures.fewer in
    omega (arith, fewer)

pub messages-preserved : goal.messages-preserved
messages-preserved c =
    let reader = c.args.reader.now in
    let fewer = subst (λ (o : Option Placed). IfSome o (λ one. c.next_taken.new.left + 1 ≡ c.messages.left)) c.in-Some.is c.in_ok-index.ensures.fewer in
    let add : c.push_message.new.text.items ≡ c.messages.lines.items ++ message_line (c.in-Some.index, c.in-Some.message) = search rules in
    one_came reader c.messages.reader c.next_taken.new.reader c.args.name.now c.args.most c.messages.left c.messages.lines.items
    c.requires.distinct c.requires.lawful.rising (few_in reader.journal.settings reader.journal.contents.lists c.requires.layout c.requires.lawful.held)
    c.messages.invariant c.next_taken.new.left _ (c.in-Some.index, c.in-Some.message) fewer
    (subst (HasTaken c.messages.reader c.next_taken.new.reader c.args.name.now) c.in-Some.is
    (c.in_ok-index.ensures.one (λ none. absurd (omega (arith, none, fewer))))) add

pub returns : goal.returns
returns c =
    let reader = c.args.reader.now in
    all_done reader c.messages.reader c.next_taken.new.reader c.args.name.now c.args.most c.messages.left c.messages.lines.items
    c.requires.distinct c.requires.lawful.rising (few_in reader.journal.settings reader.journal.contents.lists c.requires.layout c.requires.lawful.held)
    c.messages.invariant _ c.in_ok-index.ensures.used c.in_ok-index.ensures.one c.in_default.is
