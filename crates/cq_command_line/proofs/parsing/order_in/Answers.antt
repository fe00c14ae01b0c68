use Rattle.std.proofs.Common.{◌≡◌, List, [], ◌∷◌, option_map, codes, true, Option, Some, Result, Ok, Err, IfErr, IfSome, IsErrAnd, MatchResult, refl, rules, sym, ap, ap₂, subst, ◌∙◌}
use Rattle.clap.specs.Words.{App, HasMatchesOf, Row, Text, is_simple, kind_of, subcommand_of, subcommand_rows_of, takes}
use Rattle.clap.specs.declared.error.Error.{Error}
use Rattle.clap.specs.declared.error.kind.ErrorKind.TheVariants as kind
use Rattle.clap.specs.declared.parser.matches.ArgMatches.{ArgMatches}
use Rattle.clap.proofs.OnLiterals.{clap_on_literals}
use Rattle.cq_orders.specs.declared.order.Order.{Order}
use Rattle.cq_command_line.specs.CommandLine.{command_line}
use Rattle.cq_command_line.specs.Faults.{HasOwnKind, IsFaultFor}
use Rattle.cq_command_line.specs.declared.parsing.ParseFault.{ParseFault}
use Rattle.cq_command_line.specs.declared.parsing.ParseFault.TheVariants as variant
use Rattle.cq_command_line.specs.OrderValues.{TakesValues}
use Rattle.cq_command_line.proofs.FaultLemmas.{own_kind}
use Rattle.cq_command_line.proofs.parsing.order_in.Goals as goal

-- what clap meets is what its walk over the words gives
meets : (app : App) (words : List Text) (matches : ArgMatches) → app ≡ command_line → HasMatchesOf app words matches
    → subcommand_rows_of matches ≡ subcommand_of command_line words
meets app words matches is has = (has (ap is_simple is)).1 ∙ ap (λ (a : App). subcommand_of a words) is

values_given : (met given : Option (Text × List Row)) (order : Order) → met ≡ given → IfSome met (λ m. TakesValues m.1 order)
    → IfSome given (λ m. TakesValues m.1 order)
values_given met given order e values = subst (λ (o : Option (Text × List Row)). IfSome o (λ m. TakesValues m.1 order)) e values

-- clap takes these words
is_taken : (program : Text) → takes command_line (program ∷ codes "echo" ∷ []) ≡ true
unfolding clap_on_literals
is_taken program = refl

is_echo : (program : Text) → subcommand_of command_line (program ∷ codes "echo" ∷ []) ≡ Some (codes "echo", [])
unfolding clap_on_literals
is_echo program = refl

-- and meets this command
meets_echo : (words : List Text) (program : Text) (matches : ArgMatches) → subcommand_rows_of matches ≡ subcommand_of command_line words
    → words ≡ program ∷ codes "echo" ∷ [] → option_map (λ met. met.0) (subcommand_rows_of matches) ≡ Some (codes "echo")
meets_echo words program matches met given = ap (option_map (λ met. met.0)) (met ∙ ap (subcommand_of command_line) given ∙ is_echo program)

-- an error of this kind becomes this fault
memory_fault : (fault : ParseFault) (error : Error) → kind_of error ≡ kind.OutOfMemory → IsFaultFor fault error → fault ≡ variant.OutOfMemory
memory_fault variant.OutOfMemory error is it = refl
memory_fault (variant.Version own) error is it = let other = it.1 in absurd (cc)
memory_fault (variant.NotUnderstood own) error is it = absurd (it.1 is)

only_memory : (r : Result Order ParseFault) (error : Error) (P : Order → Type 0) → kind_of error ≡ kind.OutOfMemory
    → IsErrAnd r (λ fault. IsFaultFor fault error) → MatchResult r P (λ fault. fault ≡ variant.OutOfMemory)
only_memory (Ok order) error P is it = absurd it
only_memory (Err fault) error P is it = memory_fault fault error is it

-- and holds an error of its kind
own_kinds : (r : Result Order ParseFault) (error : Error) → IsErrAnd r (λ fault. IsFaultFor fault error) → IfErr r HasOwnKind
own_kinds (Ok order) error it = absurd it
own_kinds (Err fault) error it = own_kind fault error it

-- what was found is what was to be found
same_order : {A E : Type 0} (r : Result A E) (x y : A) → r ≡ Ok x → r ≡ Ok y → y ≡ x
same_order r x y a b = cc

not_both : {A E : Type 0} (r : Result A E) (x : A) (e : E) → r ≡ Ok x → r ≡ Err e → ⊥
not_both r x e a b = cc

pub returns-in-Ok : goal.returns-in-Ok
returns-in-Ok c =
    let met = meets _ _ c.in_ok-matches.matches c.requires.is c.in_ok-matches.ensures.ok.2 in
    record {
      named = ap (option_map (λ met. met.0)) (sym met) ∙ c.in-Ok.ensures.named;
      values = values_given _ _ c.in-Ok.order met c.in-Ok.ensures.values;
      kind = tt;
      echo = λ program words.
          same_order c.order_met.result _ c.in-Ok.order (c.order_met.ensures.echo (meets_echo _ program _ met words)) c.in-Ok.is;
    }

pub returns-in_err-matches : goal.returns-in_err-matches
returns-in_err-matches c = record {
  named = search rules;
  values = search rules;
  kind = own_kinds c.from_residual.result _ c.from_residual.ensures.1;
  echo = λ program words.
      let memory = c.in_err-matches.ensures.passes (ap₂ takes c.requires.is words ∙ is_taken program) in
      only_memory c.from_residual.result _ _ memory c.from_residual.ensures.1;
}

pub returns : goal.returns
returns c =
    let met = meets _ _ c.in_ok-matches.matches c.requires.is c.in_ok-matches.ensures.ok.2 in
    record {
      named = tt;
      values = tt;
      kind = c.said.ensures;
      echo = λ program words.
          absurd (not_both c.order_met.result _ c.in-Err.fault (c.order_met.ensures.echo (meets_echo _ program _ met words)) c.in-Err.is);
    }
