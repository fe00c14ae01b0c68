-- The command line of the program, in the words of clap.
use Rattle.std.specs.Prelude.{◌≡◌, ◌&&◌, ℕ, ◌-◌, ◌^◌, List, [], ◌∷◌, ◌++◌, true, false, codes, fold, Some, ⊤}
use Rattle.std.specs.Borrow.{Bor}
use Rattle.clap.specs.Words.{App, Rule, app_of, new_app, new_rule, rule_of, with_rule, with_subcommand}
use Rattle.clap.specs.Walk.{is_empty}
use Rattle.clap.specs.declared.builder.arg.Arg.{Arg}
use Rattle.clap.specs.declared.builder.command.Command.{Command}
use Rattle.clap.specs.declared.builder.command.Command.TheViews.{out-Command}
use Rattle.clap.specs.declared.builder.ArgAction.TheVariants.{Append, Set, SetTrue}
use Rattle.clap.specs.declared.builder.value_parser.ValueParser.TheVariants.{Unsigned}
use Rattle.cq_command_line.specs.declared.arguments.Argument.{Argument}
use Rattle.cq_command_line.specs.declared.commands.Description.{Description}
use Rattle.cq_command_line.specs.declared.arguments.Argument.TheVariants.{Word, Number, Between, Words, Flag, Option, OptionBetween, FlagAgainst, OptionAgainst, Count, CountAgainst, Maybe}
use Rattle.cq_orders.specs.declared.order.Order.{Order}
use Rattle.cq_orders.specs.declared.order.Order.TheVariants.{Echo, Cycle, Init, Write, WriteBy, Log, Read, Follow, Take, TakeBy, Check, Stat, Dump, Salvage, Race, DropBefore, Trim, Migrate, Names, New, Repair, Explain}

-- the word that names the command
abbrev pub word_of : Order → List ℕ
word_of Echo = codes "echo"
word_of (Cycle roll epoch moment) = codes "cycle"
word_of (Init folder settings) = codes "init"
word_of (New folder settings) = codes "new"
word_of (Write folder moment) = codes "write"
word_of (WriteBy folder settings) = codes "write"
word_of (Log folder settings) = codes "log"
word_of (Read folder settings) = codes "read"
word_of (Follow folder settings seconds) = codes "read"
word_of (Take folder name) = codes "take"
word_of (TakeBy folder name settings) = codes "take"
word_of (DropBefore folder cycle) = codes "drop"
word_of (Trim folder settings) = codes "trim"
word_of (Check folder) = codes "check"
word_of (Stat folder json) = codes "stat"
word_of (Dump folder file) = codes "dump"
word_of (Salvage folder file) = codes "salvage"
word_of (Repair folder file dry_run) = codes "repair"
word_of (Migrate folder) = codes "migrate"
word_of (Race messages) = codes "race"
word_of (Names folder change) = codes "name"
word_of (Explain words) = codes "explain"

-- an argument that is to be given: any word, a number below 2^64, or one between two others
abbrev pub word_rule : List ℕ → Rule
word_rule name = record (new_rule name) { required = true; action = Some Set }

-- a number below 2^64
abbrev pub number_rule : List ℕ → Rule
number_rule name = record (word_rule name) { parser = Some (Unsigned 0 (2 ^ 64 - 1)) }

-- a number between two others
abbrev pub between_rule : List ℕ → ℕ → ℕ → Rule
between_rule name low high = record (word_rule name) { parser = Some (Unsigned low high) }

-- any number of words, none too
abbrev pub words_rule : List ℕ → Rule
words_rule name = record (new_rule name) { action = Some Append }

-- what may be left out and stands anywhere: a flag, and an option with one word as its value
abbrev pub flag_rule : List ℕ → Rule
flag_rule name = record (new_rule name) { long = Some name; action = Some SetTrue }

-- an option with one word as its value
abbrev pub option_rule : List ℕ → Rule
option_rule name = record (new_rule name) { long = Some name; action = Some Set; value_names = 1 }

-- an option with a number between two others as its value
abbrev pub option_between_rule : List ℕ → ℕ → ℕ → Rule
option_between_rule name low high = record (option_rule name) { parser = Some (Unsigned low high) }

-- an option with a number from 1 to 2^32 - 1
abbrev pub count_rule : List ℕ → Rule
count_rule name = option_between_rule name 1 (2 ^ 32 - 1)

-- an argument that cannot be given with any of these others. Its rule does not say which they are, but that there are some
abbrev pub against : {A : Type 0} → List A → Rule → Rule
against others rule = record rule { is_free = rule.is_free && is_empty others }

-- a rule of an argument that cannot be given with some others
abbrev pub bound : Rule → Rule
bound rule = record rule { is_free = false }

-- one word, or none
abbrev pub maybe_rule : List ℕ → Rule
maybe_rule name = record (new_rule name) { action = Some Set }

-- the rule of an argument
abbrev pub rule_for : Argument → Rule
rule_for (Word name help) = word_rule name.now
rule_for (Number name help) = number_rule name.now
rule_for (Between name low high help) = between_rule name.now low high
rule_for (Words name help) = words_rule name.now
rule_for (Flag name help) = flag_rule name.now
rule_for (Option name value_name help) = option_rule name.now
rule_for (OptionBetween name value_name low high help) = option_between_rule name.now low high
rule_for (FlagAgainst name others help) = against others.now (flag_rule name.now)
rule_for (OptionAgainst name value_name others help) = against others.now (option_rule name.now)
rule_for (Count name value_name help) = count_rule name.now
rule_for (CountAgainst name value_name others help) = against others.now (count_rule name.now)
rule_for (Maybe name help) = maybe_rule name.now

-- the command with these arguments behind those that it has
abbrev pub with_arguments : App → List Argument → App
with_arguments app arguments = fold (λ before argument. with_rule before (rule_for argument)) app arguments

-- the command with this description, without its arguments and with them
abbrev pub bare_command : Description → App
bare_command description = new_app description.name.now

-- the command with its arguments
abbrev pub command_for : Description → App
command_for description = with_arguments (bare_command description) description.arguments.now

-- the program with these commands behind those that it has
abbrev pub with_commands : App → List (Bor Description) → App
with_commands app [] = app
with_commands app (first ∷ rest) = with_commands (with_subcommand app (command_for first.now).top) rest

-- the program without its commands, of which one is to be named. It has a version
abbrev pub program : App
program =
    let app = new_app (codes "cq") in record { top = record app.top { subcommand_required = true; has_version = true }; subs = app.subs }

-- the command `echo`, without arguments
abbrev pub echo_command : App
echo_command = new_app (codes "echo")

-- the command `cycle`
abbrev pub cycle_command : App
cycle_command =
    with_rule (with_rule (with_rule (new_app (codes "cycle")) (word_rule (codes "ROLL"))) (number_rule (codes "EPOCH"))) (number_rule (codes "MOMENT"))

-- the command `race`: 1 to 1000 messages
abbrev pub race_command : App
race_command = with_rule (new_app (codes "race")) (between_rule (codes "MESSAGES") 1 1000)

-- the command `explain`: the words of a fault
abbrev pub explain_command : App
explain_command = with_rule (new_app (codes "explain")) (words_rule (codes "WORDS"))

-- the command `init`
abbrev pub init_command : App
init_command =
    with_rule (with_rule (with_rule (with_rule (with_rule (with_rule (with_rule (with_rule (new_app (codes "init"))
    (word_rule (codes "DIR"))) (word_rule (codes "ROLL"))) (number_rule (codes "EPOCH"))) (number_rule (codes "CELLS"))) (number_rule (codes "COUNT")))
    (number_rule (codes "SPACING"))) (number_rule (codes "CYCLES"))) (words_rule (codes "NAMES"))

-- the command `new`: the folder, the names, and what may be left out of the other settings
abbrev pub new_command : App
new_command =
    with_rule (with_rule (with_rule (with_rule (with_rule (new_app (codes "new")) (word_rule (codes "DIR"))) (words_rule (codes "NAMES")))
    (option_rule (codes "roll"))) (option_between_rule (codes "cells") 1 1048576)) (option_between_rule (codes "cycles") 1 64)

-- the command `write`. The moment is a number or the word `now`, so any word passes here
abbrev pub write_command : App
write_command =
    with_rule (with_rule (with_rule (with_rule (new_app (codes "write")) (word_rule (codes "DIR"))) (word_rule (codes "MOMENT")))
    (bound (flag_rule (codes "null")))) (flag_rule (codes "whole"))

-- the command `log`
abbrev pub log_command : App
log_command =
    with_rule (with_rule (with_rule (with_rule (new_app (codes "log")) (word_rule (codes "DIR"))) (count_rule (codes "for")))
    (option_between_rule (codes "syncs") 0 2)) (count_rule (codes "checkpoint"))

-- the rules of `read`: the folder, which messages are printed, and in which form
abbrev pub read_rules : List Rule
read_rules =
    word_rule (codes "DIR") ∷ flag_rule (codes "back") ∷ option_rule (codes "from") ∷ count_rule (codes "limit")
    ∷ bound (count_rule (codes "last")) ∷ bound (option_rule (codes "since")) ∷ option_rule (codes "until")
    ∷ bound (flag_rule (codes "text")) ∷ bound (flag_rule (codes "null")) ∷ bound (flag_rule (codes "hex")) ∷ flag_rule (codes "json")
    ∷ bound (flag_rule (codes "follow")) ∷ count_rule (codes "for") ∷ []

-- the command `read`
abbrev pub read_command : App
read_command = fold with_rule (new_app (codes "read")) read_rules

-- the command `take`
abbrev pub take_command : App
take_command =
    with_rule (with_rule (with_rule (with_rule (with_rule (new_app (codes "take")) (word_rule (codes "DIR"))) (word_rule (codes "NAME")))
    (count_rule (codes "limit"))) (flag_rule (codes "peek"))) (count_rule (codes "wait"))

-- the command `drop`
abbrev pub drop_command : App
drop_command = with_rule (with_rule (new_app (codes "drop")) (word_rule (codes "DIR"))) (number_rule (codes "CYCLE"))

-- the command `trim`
abbrev pub trim_command : App
trim_command =
    with_rule (with_rule (with_rule (with_rule (with_rule (new_app (codes "trim")) (word_rule (codes "DIR"))) (count_rule (codes "keep")))
    (option_rule (codes "before"))) (flag_rule (codes "force"))) (flag_rule (codes "dry-run"))

-- the command `check`
abbrev pub check_command : App
check_command = with_rule (new_app (codes "check")) (word_rule (codes "DIR"))

-- the command `stat`
abbrev pub stat_command : App
stat_command = with_rule (with_rule (new_app (codes "stat")) (word_rule (codes "DIR"))) (flag_rule (codes "json"))

-- the command `dump`
abbrev pub dump_command : App
dump_command = with_rule (with_rule (new_app (codes "dump")) (word_rule (codes "DIR"))) (word_rule (codes "FILE"))

-- the command `salvage`
abbrev pub salvage_command : App
salvage_command = with_rule (with_rule (new_app (codes "salvage")) (word_rule (codes "DIR"))) (word_rule (codes "FILE"))

-- the command `repair`
abbrev pub repair_command : App
repair_command =
    with_rule (with_rule (with_rule (new_app (codes "repair")) (word_rule (codes "DIR"))) (word_rule (codes "FILE"))) (flag_rule (codes "dry-run"))

-- the command `migrate`
abbrev pub migrate_command : App
migrate_command = with_rule (new_app (codes "migrate")) (word_rule (codes "DIR"))

-- the command `name`
abbrev pub name_command : App
name_command =
    with_rule (with_rule (with_rule (with_rule (with_rule (new_app (codes "name")) (word_rule (codes "DIR"))) (word_rule (codes "ACTION")))
    (maybe_rule (codes "NAME"))) (option_rule (codes "at"))) (option_rule (codes "to"))

-- the commands that need no folder
abbrev pub plain_commands : App → App
plain_commands app =
    with_subcommand (with_subcommand (with_subcommand (with_subcommand app echo_command.top) cycle_command.top) race_command.top) explain_command.top

-- the commands on the messages of a queue that is stored in a folder
abbrev pub message_commands : App → App
message_commands app =
    with_subcommand (with_subcommand (with_subcommand (with_subcommand (with_subcommand (with_subcommand app init_command.top) new_command.top)
    write_command.top) log_command.top) read_command.top) take_command.top

-- the commands that look after such a queue
abbrev pub care_commands : App → App
care_commands app =
    with_subcommand (with_subcommand (with_subcommand (with_subcommand (with_subcommand app drop_command.top) trim_command.top) name_command.top)
    migrate_command.top) stat_command.top

-- the commands that look at its images
abbrev pub image_commands : App → App
image_commands app =
    with_subcommand (with_subcommand (with_subcommand (with_subcommand app check_command.top) dump_command.top) salvage_command.top)
    repair_command.top

-- the program with all its commands
abbrev pub command_line : App
command_line = image_commands (care_commands (message_commands (plain_commands program)))

-- the argument follows this rule, and is one of its own command alone
pub record Follows (arg : Arg) (rule : Rule) : Type 0 where
  pub is : rule_of arg ≡ rule
  pub local : arg.global ≡ false

-- the command is this one, and has no argument that is one of other commands too
pub record Makes (command : Command) (app : App) : Type 0 where
  pub is : app_of command ≡ app
  pub local : (out-Command command).has_globals ≡ false

-- of two lists of one length, each item of the first has this to do with the one at its place in the second
abbrev pub Pairwise : {A B : Type 0} → (A → B → Type 0) → List A → List B → Type 0
Pairwise R [] [] = ⊤
Pairwise R (x ∷ xs) (y ∷ ys) = R x y × Pairwise R xs ys
Pairwise R [] (y ∷ ys) = ⊥
Pairwise R (x ∷ xs) [] = ⊥

-- one item is added, of which this holds
abbrev pub AddsOne : {A : Type 0} → (A → Type 0) → List A → List A → Type 0
AddsOne {A} P before after = (item : A) × (after ≡ before ++ item ∷ []) × P item

-- the arguments follow the rules of these, in their order
abbrev pub FollowAll : List Arg → List Argument → Type 0
FollowAll args arguments = Pairwise (λ arg argument. Follows arg (rule_for argument)) args arguments

-- the commands are those with these descriptions, in their order
abbrev pub MakesAll : List Command → List (Bor Description) → Type 0
MakesAll commands descriptions = Pairwise (λ command description. Makes command (command_for description.now)) commands descriptions
