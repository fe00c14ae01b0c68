-- A command that is built step by step.
use Rattle.std.proofs.Common.{◌≡◌, ◌∙◌, ◌+◌, ◌<◌, ◌∷◌, ◌++◌, ◌&&◌, [], Bool, List, false, true, ap, ap₂, arith, get_or, length, not, refl, subst, sym, take, ℕ}
use Rattle.std.proofs.lemmas.Bool.Decides.{nat_tests}
use Rattle.std.proofs.lemmas.List.{take_more}
use Rattle.std.specs.Borrow.{Bor}
use Rattle.clap.specs.Words.{AddsArg, AddsInTurn, AddsSubcommand, App, Rule, with_rule, with_subcommand}
use Rattle.clap.specs.Walk.{is_empty}
use Rattle.clap.specs.declared.builder.arg.Arg.{Arg}
use Rattle.clap.specs.declared.builder.command.Command.{Command}
use Rattle.cq_command_line.specs.CommandLine.{FollowAll, Follows, Makes, MakesAll, Pairwise, command_for, rule_for, with_arguments, with_commands}
use Rattle.cq_command_line.specs.declared.arguments.Argument.{Argument}
use Rattle.cq_command_line.specs.declared.commands.Description.{Description}

no_items : {A : Type 0} (exclusive : Bool) (xs : List A) (others : Bool) → (not exclusive && (is_empty xs && others)) ≡ true → xs ≡ []
no_items false [] others is = refl
no_items false (x ∷ xs) others is = absurd (grind (arith, nat_tests))
no_items true xs others is = cc

-- an argument whose rule allows all others
pub without_conflicts : (arg : Arg) (rule : Rule) → rule.is_free ≡ true → Follows arg rule → (arg.conflicts.items ≡ []) × (arg.global ≡ false)
without_conflicts arg rule free follows = (no_items arg.exclusive arg.conflicts.items _ (ap (λ (r : Rule). r.is_free) follows.is ∙ free), follows.local)

made-with_rule : (old new : Command) (arg : Arg) (app : App) (rule : Rule) → AddsArg old arg new → Makes old app → Follows arg rule
    → Makes new (with_rule app rule)
made-with_rule old new arg app rule adds makes follows = record {
  is = adds.shape follows.local ∙ ap₂ with_rule makes.is follows.is;
  local = adds.globals ∙ (rw (makes.local, follows.local) refl);
}

made-with_subcommand : (old new sub : Command) (app inner : App) → AddsSubcommand old sub new → Makes old app → Makes sub inner
    → Makes new (with_subcommand app inner.top)
made-with_subcommand old new sub app inner adds makes within = record {
  is = adds.shape within.local ∙ ap₂ with_subcommand makes.is (ap (λ (a : App). a.top) within.is);
  local = adds.globals ∙ (rw (makes.local, within.local) refl);
}

-- one more item of each of two lists
one_more : {A B : Type 0} (R : A → B → Type 0) (xs : List A) (ys : List B) (x : A) (y : B) → Pairwise R xs ys → R x y
    → Pairwise R (xs ++ x ∷ []) (ys ++ y ∷ [])
one_more R [] [] x y so_far next = (next, tt)
one_more R (first ∷ xs) (other ∷ ys) x y so_far next = (so_far.0, one_more R xs ys x y so_far.1 next)
one_more R [] (other ∷ ys) x y so_far next = absurd so_far
one_more R (first ∷ xs) [] x y so_far next = absurd so_far

-- one more item of a list that is gone over
pub pushed : {A B : Type 0} (R : A → B → Type 0) (before after : List A) (ys : List B) (i : ℕ) (x : A) (y : B) → i < length ys
    → after ≡ before ++ x ∷ [] → Pairwise R before (take i ys) → R x (get_or ys i y) → Pairwise R after (take (i + 1) ys)
pushed R before after ys i x y below is so_far next =
    subst (λ xs. Pairwise R xs (take (i + 1) ys)) (sym is)
    (subst (Pairwise R (before ++ x ∷ [])) (sym (take_more ys i y below)) (one_more R before _ x _ so_far next))

-- a command with all of a list of arguments
pub made-with_arguments : (args : List Arg) (arguments : List Argument) (old new : Command) (app : App) → AddsInTurn AddsArg old args new
    → Makes old app → FollowAll args arguments → Makes new (with_arguments app arguments)
made-with_arguments [] [] old new app adds makes follow = subst (λ command. Makes command app) adds makes
made-with_arguments (arg ∷ args) (argument ∷ arguments) old new app adds makes follow =
    made-with_arguments args arguments adds.0 new _ adds.2 (made-with_rule old adds.0 arg app (rule_for argument) adds.1 makes follow.0) follow.1
made-with_arguments [] (argument ∷ arguments) old new app adds makes follow = absurd follow
made-with_arguments (arg ∷ args) [] old new app adds makes follow = absurd follow

-- a command with all of a list of commands below it
pub made-with_commands : (commands : List Command) (descriptions : List (Bor Description)) (old new : Command) (app : App)
    → AddsInTurn AddsSubcommand old commands new → Makes old app → MakesAll commands descriptions → Makes new (with_commands app descriptions)
made-with_commands [] [] old new app adds makes made = subst (λ command. Makes command app) adds makes
made-with_commands (first ∷ rest) (told ∷ others) old new app adds makes made =
    made-with_commands rest others adds.0 new _ adds.2 (made-with_subcommand old adds.0 first app (command_for told.now) adds.1 makes made.0) made.1
made-with_commands [] (told ∷ others) old new app adds makes made = absurd made
made-with_commands (first ∷ rest) [] old new app adds makes made = absurd made
