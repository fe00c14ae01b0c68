-- What an order takes from the words of its command: each value under the name of its argument.
use Rattle.std.specs.Prelude.{◌≡◌, ◌≢◌, ℕ, Bool, List, [], true, false, codes, None, Option, Some, map, option_map, unwrap_or, string_bytes, String, ⊤}
use Rattle.std.specs.Str.Parse.{IsNumeral, digits_value, without_leading_plus}
use Rattle.clap.specs.Words.{Row, Text, all_of, first_of, one_of}
use Rattle.cq_settings.specs.declared.settings.InitSettings.{InitSettings}
use Rattle.cq_orders.specs.declared.settings.InputForm.{InputForm}
use Rattle.cq_orders.specs.declared.settings.InputForm.TheVariants.{Lines, Null as UpToNull, Whole}
use Rattle.cq_orders.specs.declared.settings.LogSettings.{LogSettings}
use Rattle.cq_orders.specs.declared.settings.NewSettings.{NewSettings}
use Rattle.cq_orders.specs.declared.settings.ReadForm.{ReadForm}
use Rattle.cq_orders.specs.declared.settings.ReadForm.TheVariants.{Hex, Json, Line, Null, Text as PlainText}
use Rattle.cq_orders.specs.declared.settings.NameChange.{NameChange}
use Rattle.cq_orders.specs.declared.settings.NameChange.TheVariants as change
use Rattle.cq_orders.specs.declared.settings.ReadSettings.{ReadSettings}
use Rattle.cq_orders.specs.declared.settings.TakeSettings.{TakeSettings}
use Rattle.cq_orders.specs.declared.settings.TrimSettings.{TrimSettings}
use Rattle.cq_orders.specs.declared.settings.WriteSettings.{WriteSettings}
use Rattle.cq_orders.specs.declared.order.Order.{Order}
use Rattle.cq_orders.specs.declared.order.Order.TheVariants.{Echo, Cycle, Init, Write, WriteBy, Log, Read, Follow, Take, TakeBy, Check, Stat, Dump, Salvage, Race, DropBefore, Trim, Migrate, Names, New, Repair, Explain}

-- the text is the word that was given under this name
abbrev pub IsWord : {A : Type 0} → List Row → Text → String A → Type 0
IsWord rows name text = first_of name rows ≡ Some (string_bytes text)

-- the number is the one whose decimal digits are in this word
abbrev pub IsNumberOf : Option Text → ℕ → Type 0
IsNumberOf given number =
    (word : Text) × (given ≡ Some word) × IsNumeral 10 (without_leading_plus word)
    × (number ≡ digits_value 10 (without_leading_plus word))

-- the number is the one whose decimal digits were given under this name
abbrev pub IsNumber : List Row → Text → ℕ → Type 0
IsNumber rows name number = IsNumberOf (one_of name rows) number

-- the number is the one that was given under this name, where one was
abbrev pub IsNumberOption : List Row → Text → Option ℕ → Type 0
IsNumberOption rows name None = first_of name rows ≡ None
IsNumberOption rows name (Some number) = IsNumber rows name number

-- the texts are all the words that were given under this name
abbrev pub AreWords : {A : Type 0} → List Row → Text → List (String A) → Type 0
AreWords rows name texts = map string_bytes texts ≡ unwrap_or (all_of name rows) []

-- the text is the word that was given under this name, where one was
abbrev pub IsOption : {A : Type 0} → List Row → Text → Option (String A) → Type 0
IsOption rows name text = option_map string_bytes text ≡ first_of name rows

-- the flag is set where clap wrote `true` under this name, and not where it wrote `false`
abbrev pub IsFlag : List Row → Text → Bool → Type 0
IsFlag rows name is_set = (one_of name rows ≡ Some (codes "true") → is_set ≡ true) × (one_of name rows ≡ Some (codes "false") → is_set ≡ false)

-- the settings of a new queue are those that were given
pub record AreSettings (rows : List Row) (settings : InitSettings) : Type 0 where
  pub roll : IsWord rows (codes "ROLL") settings.roll
  pub epoch : IsNumber rows (codes "EPOCH") settings.epoch
  pub cells : IsNumber rows (codes "CELLS") settings.cells
  pub index_count : IsNumber rows (codes "COUNT") settings.index_count
  pub index_spacing : IsNumber rows (codes "SPACING") settings.index_spacing
  pub cycles : IsNumber rows (codes "CYCLES") settings.cycles
  pub names : AreWords rows (codes "NAMES") settings.names.items

-- the settings of a queue that is made with its folder are those that were given
pub record AreNewSettings (rows : List Row) (settings : NewSettings) : Type 0 where
  pub roll : IsOption rows (codes "roll") settings.roll
  pub cells : IsNumberOption rows (codes "cells") settings.cells
  pub cycles : IsNumberOption rows (codes "cycles") settings.cycles
  pub names : AreWords rows (codes "NAMES") settings.names.items

-- the moment is the number that was given, and none is the word `now`
abbrev pub IsMoment : List Row → Option ℕ → Type 0
IsMoment rows None = first_of (codes "MOMENT") rows ≡ Some (codes "now")
IsMoment rows (Some moment) = IsNumberOf (first_of (codes "MOMENT") rows) moment

-- what a message is by the first of these flags that is set, and lines without one
abbrev pub input_form_of : Bool → Bool → InputForm
input_form_of true whole = UpToNull
input_form_of false true = Whole
input_form_of false false = Lines

-- a message of the input is what was given. No two flags are: the command line refuses that
pub record IsInputForm (rows : List Row) (form : InputForm) : Type 0 where
  pub null : Bool
  pub whole : Bool
  pub null_is : IsFlag rows (codes "null") null
  pub whole_is : IsFlag rows (codes "whole") whole
  pub form_is : form ≡ input_form_of null whole

-- messages are appended as it was given
pub record AreWriteSettings (rows : List Row) (settings : WriteSettings) : Type 0 where
  pub moment : IsMoment rows settings.moment
  pub form : IsInputForm rows settings.form

-- the settings of a write of lines at a moment, without options
abbrev pub lines_at : ℕ → WriteSettings
lines_at moment = record { moment = Some moment; form = Lines }

-- the form of the first of these flags that is set, and lines without one
abbrev pub form_of : Bool → Bool → Bool → Bool → ReadForm
form_of true null hex json = PlainText
form_of false true hex json = Null
form_of false false true json = Hex
form_of false false false true = Json
form_of false false false false = Line

-- the form is the one that was given. No two are: the command line refuses that
pub record IsForm (rows : List Row) (form : ReadForm) : Type 0 where
  pub text : Bool
  pub null : Bool
  pub hex : Bool
  pub json : Bool
  pub text_is : IsFlag rows (codes "text") text
  pub null_is : IsFlag rows (codes "null") null
  pub hex_is : IsFlag rows (codes "hex") hex
  pub json_is : IsFlag rows (codes "json") json
  pub form_is : form ≡ form_of text null hex json

-- the messages that are read are those that were asked for, and so is their form
pub record AreReadSettings (rows : List Row) (settings : ReadSettings) : Type 0 where
  pub form : IsForm rows settings.form
  pub back : IsFlag rows (codes "back") settings.back
  pub begin : IsOption rows (codes "from") settings.from
  pub limit : IsNumberOption rows (codes "limit") settings.limit
  pub last : IsNumberOption rows (codes "last") settings.last
  pub since : IsOption rows (codes "since") settings.since
  pub until : IsOption rows (codes "until") settings.until

-- messages are taken as it was given
pub record AreTakeSettings (rows : List Row) (settings : TakeSettings) : Type 0 where
  pub limit : IsNumberOption rows (codes "limit") settings.limit
  pub peek : IsFlag rows (codes "peek") settings.peek
  pub wait : IsNumberOption rows (codes "wait") settings.wait

-- the settings of a take without options
abbrev pub no_options : TakeSettings
no_options = record { limit = None; peek = false; wait = None }

-- a queue is kept open as it was given
pub record AreLogSettings (rows : List Row) (settings : LogSettings) : Type 0 where
  pub seconds : IsNumberOption rows (codes "for") settings.seconds
  pub syncs : IsNumberOption rows (codes "syncs") settings.syncs
  pub checkpoint : IsNumberOption rows (codes "checkpoint") settings.checkpoint

-- of a queue is removed what was given
pub record AreTrimSettings (rows : List Row) (settings : TrimSettings) : Type 0 where
  pub keep : IsNumberOption rows (codes "keep") settings.keep
  pub before : IsOption rows (codes "before") settings.before
  pub force : IsFlag rows (codes "force") settings.force
  pub dry_run : IsFlag rows (codes "dry-run") settings.dry_run

-- no word was given under this name
abbrev pub IsAbsent : List Row → Text → Type 0
IsAbsent rows name = first_of name rows ≡ None

-- with the names of a queue is done what was given, and nothing else was given
abbrev pub IsNameChange : List Row → NameChange → Type 0
IsNameChange rows change.List =
    (first_of (codes "ACTION") rows ≡ Some (codes "list")) × IsAbsent rows (codes "NAME") × IsAbsent rows (codes "at") × IsAbsent rows (codes "to")
IsNameChange rows (change.Add name at) =
    (first_of (codes "ACTION") rows ≡ Some (codes "add")) × IsWord rows (codes "NAME") name × IsOption rows (codes "at") at × IsAbsent rows (codes "to")
IsNameChange rows (change.Remove name) =
    (first_of (codes "ACTION") rows ≡ Some (codes "remove")) × IsWord rows (codes "NAME") name × IsAbsent rows (codes "at") × IsAbsent rows (codes "to")
IsNameChange rows (change.Move name to) =
    (first_of (codes "ACTION") rows ≡ Some (codes "move")) × IsWord rows (codes "NAME") name × IsWord rows (codes "to") to × IsAbsent rows (codes "at")

-- the order's values are those that were given
abbrev pub TakesValues : List Row → Order → Type 0
TakesValues rows Echo = ⊤
TakesValues rows (Cycle roll epoch moment) =
    IsWord rows (codes "ROLL") roll × IsNumber rows (codes "EPOCH") epoch × IsNumber rows (codes "MOMENT") moment
TakesValues rows (Init folder settings) = IsWord rows (codes "DIR") folder × AreSettings rows settings
TakesValues rows (New folder settings) = IsWord rows (codes "DIR") folder × AreNewSettings rows settings
TakesValues rows (Write folder moment) = IsWord rows (codes "DIR") folder × AreWriteSettings rows (lines_at moment)
TakesValues rows (WriteBy folder settings) = IsWord rows (codes "DIR") folder × AreWriteSettings rows settings
    × ((moment : ℕ) → settings ≢ lines_at moment)
TakesValues rows (Log folder settings) = IsWord rows (codes "DIR") folder × AreLogSettings rows settings
TakesValues rows (Read folder settings) = IsWord rows (codes "DIR") folder × AreReadSettings rows settings
    × IsFlag rows (codes "follow") false × IsAbsent rows (codes "for")
TakesValues rows (Follow folder settings seconds) = IsWord rows (codes "DIR") folder × AreReadSettings rows settings
    × (settings.back ≡ false) × IsFlag rows (codes "follow") true × IsNumberOption rows (codes "for") seconds
TakesValues rows (Take folder name) =
    IsWord rows (codes "DIR") folder × IsWord rows (codes "NAME") name × AreTakeSettings rows no_options
TakesValues rows (TakeBy folder name settings) = IsWord rows (codes "DIR") folder × IsWord rows (codes "NAME") name
    × AreTakeSettings rows settings × (settings ≢ no_options)
TakesValues rows (DropBefore folder cycle) = IsWord rows (codes "DIR") folder × IsNumber rows (codes "CYCLE") cycle
TakesValues rows (Trim folder settings) = IsWord rows (codes "DIR") folder × AreTrimSettings rows settings
TakesValues rows (Check folder) = IsWord rows (codes "DIR") folder
TakesValues rows (Stat folder json) = IsWord rows (codes "DIR") folder × IsFlag rows (codes "json") json
TakesValues rows (Dump folder file) = IsWord rows (codes "DIR") folder × IsWord rows (codes "FILE") file
TakesValues rows (Salvage folder file) = IsWord rows (codes "DIR") folder × IsWord rows (codes "FILE") file
TakesValues rows (Repair folder file dry_run) =
    IsWord rows (codes "DIR") folder × IsWord rows (codes "FILE") file × IsFlag rows (codes "dry-run") dry_run
TakesValues rows (Migrate folder) = IsWord rows (codes "DIR") folder
TakesValues rows (Race messages) = IsNumber rows (codes "MESSAGES") messages
TakesValues rows (Names folder change) = IsWord rows (codes "DIR") folder × IsNameChange rows change
TakesValues rows (Explain words) = AreWords rows (codes "WORDS") words.items
