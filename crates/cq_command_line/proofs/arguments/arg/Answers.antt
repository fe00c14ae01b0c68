use Rattle.std.proofs.Common.{IfOk, refl, subst}
use Rattle.cq_command_line.specs.CommandLine.{Follows, against}
use Rattle.cq_command_line.proofs.CommandLemmas.{without_conflicts}
use Rattle.cq_command_line.proofs.arguments.arg.Goals as goal

pub returns-in-Word : goal.returns-in-Word
returns-in-Word c = rw c.in-Word.is c.word.ensures

pub returns-in-Number : goal.returns-in-Number
returns-in-Number c = rw c.in-Number.is c.number.ensures

pub returns-in-Between : goal.returns-in-Between
returns-in-Between c = rw c.in-Between.is c.between.ensures

pub returns-in-Words : goal.returns-in-Words
returns-in-Words c = rw c.in-Words.is c.words.ensures

pub returns-in-Flag : goal.returns-in-Flag
returns-in-Flag c = rw c.in-Flag.is c.flag.ensures

pub returns-in-Option : goal.returns-in-Option
returns-in-Option c = rw c.in-Option.is c.option.ensures

pub returns-in-OptionBetween : goal.returns-in-OptionBetween
returns-in-OptionBetween c = rw c.in-OptionBetween.is c.option_between.ensures

pub returns-in-Count : goal.returns-in-Count
returns-in-Count c = rw c.in-Count.is c.count.ensures

pub returns-in-Maybe : goal.returns-in-Maybe
returns-in-Maybe c = rw c.in-Maybe.is c.maybe.ensures

pub against-requires : goal.against-requires
against-requires c = without_conflicts _ _ refl c.flag-in-FlagAgainst.ensures

pub returns-in-FlagAgainst : goal.returns-in-FlagAgainst
returns-in-FlagAgainst c =
    rw c.in-FlagAgainst.is (subst (λ rule. IfOk c.against.result (λ made. Follows made (against c.in-FlagAgainst.others.now rule)))
    c.flag-in-FlagAgainst.ensures.is c.against.ensures)

pub against-requires-in-OptionAgainst : goal.against-requires-in-OptionAgainst
against-requires-in-OptionAgainst c = without_conflicts _ _ refl c.option-in-OptionAgainst.ensures

pub returns-in-OptionAgainst : goal.returns-in-OptionAgainst
returns-in-OptionAgainst c =
    rw c.in-OptionAgainst.is (subst (λ rule. IfOk c.against-in-OptionAgainst.result (λ made. Follows made (against c.in-OptionAgainst.others.now rule)))
    c.option-in-OptionAgainst.ensures.is c.against-in-OptionAgainst.ensures)

pub against-requires-in-CountAgainst : goal.against-requires-in-CountAgainst
against-requires-in-CountAgainst c = without_conflicts _ _ refl c.count-in-CountAgainst.ensures

pub returns-in-CountAgainst : goal.returns-in-CountAgainst
returns-in-CountAgainst c =
    rw c.in-CountAgainst.is (subst (λ rule. IfOk c.against-in-CountAgainst.result (λ made. Follows made (against c.in-CountAgainst.others.now rule)))
    c.count-in-CountAgainst.ensures.is c.against-in-CountAgainst.ensures)
