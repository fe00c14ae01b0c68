-- How `read` goes through the messages of a queue that was opened.
use Rattle.std.specs.Prelude.{◌≡◌, ◌-◌, ◌<◌, ◌^◌, ℕ, Bool, List, Option, None, Some, filter, length, max, min, nat_le, nat_lt, option_map, reverse, string_bytes, true, false}
use Rattle.std.specs.List.{flat_map}
use Rattle.cq_folder.specs.Folder.{Files}
use Rattle.cq_forms.specs.Forms.{formed}
use Rattle.cq_forms.specs.Names.{AreNames, name_in}
use Rattle.cq_model.specs.Journals.{ReaderFacts}
use Rattle.cq_layout.specs.Layout.{IsLawfulLayout}
use Rattle.cq_model.specs.Finds.{Placed}
use Rattle.cq_model.specs.Settings.{Settings}
use Rattle.cq_model.specs.States.{AreLawfulContents}
use Rattle.cq_orders.specs.declared.settings.ReadSettings.{ReadSettings}
use Rattle.cq_files.specs.Queue.{contents_in}
use Rattle.cq_commands.specs.Messages.{IsSince, IsStart, IsUntil, asked, limited, way_of}
use Rattle.cq_commands.specs.Opened.{IsOpenedFrom, readable_held}
use Rattle.cq_commands.specs.TakenBy.{position_after}
use Rattle.cq_commands.specs.declared.printing.Bounds.{Bounds}
use Rattle.cq_commands.specs.declared.printing.Choice.{Choice}
use Rattle.cq_commands.specs.declared.printing.Lines.{Lines}
use Rattle.cq_commands.specs.declared.printing.ReadPlace.{ReadPlace}
use Rattle.cq_commands.specs.declared.printing.ReadQueue.{ReadQueue}
use Rattle.cq_commands.specs.declared.printing.Span.{Span}

-- the queue was opened with what the folder's files hold, and these are the names of its cycles
pub record IsReadFrom (files : Option Files) (read : ReadQueue) : Type 0 where
  pub from : IsOpenedFrom files read.opened
  pub named : AreNames read.opened.config.roll read.opened.config.epoch (name_in read.names.items) (contents_in from.queue).lists

-- the indexes between which messages are read
pub record AreBounds (settings : Settings) (wanted : ReadSettings) (bounds : Bounds) : Type 0 where
  pub since : IsSince settings wanted bounds.since
  pub until : IsUntil settings wanted bounds.until

-- a way that goes backwards from one index to another, or forwards
abbrev pub span : Bool → ℕ → ℕ → Span
span back start stop = record { back = back; start = start; stop = stop }

-- the way on which the messages between two indexes are read: backwards for the last ones
abbrev pub read_span : Option ℕ → Bool → ℕ → ℕ → ℕ → Span
read_span (Some count) back start since until = span true until since
read_span None true start since until = span true (min start until) since
read_span None false start since until = span false (max start since) until

-- a way has not come to its end at an index
abbrev pub is_within : Bool → ℕ → ℕ → Bool
is_within true stop index = nat_le stop index
is_within false stop index = nat_lt index stop

-- a reader of lawful contents, which goes in the direction of this way, and is at an index
pub record GoesBy (s : Span) (reader : ReaderFacts) : Type 0 where
  pub lawful : AreLawfulContents reader.journal.settings reader.journal.contents
  pub layout : IsLawfulLayout reader.journal.settings.layout
  pub way : reader.way ≡ way_of s.back
  pub cursor : reader.cursor < 2 ^ 64

-- the messages on a way, from an index on
abbrev pub spanned : Span → ℕ → List Placed → List Placed
spanned s start messages = filter (λ found. is_within s.back s.stop found.0) (asked s.back start messages)

-- those that are printed: the last ones turn round
abbrev pub span_messages : Option ℕ → Option ℕ → Span → List Placed → List Placed
span_messages (Some count) limit s messages = reverse (limited (Some count) (spanned s s.start messages))
span_messages None limit s messages = limited limit (spanned s s.start messages)

-- a place at this index, with this number of messages left
abbrev pub place_at : ℕ → Option ℕ → ReadPlace
place_at next left = record { next = next; left = left }

-- the place after these messages were printed from there on
abbrev pub place_after : ReadPlace → List Placed → ReadPlace
place_after place messages =
    place_at (position_after place.next messages) (option_map (λ left. left - length messages) place.left)

-- how many messages are left after this was found
abbrev pub left_after : Option Placed → Option ℕ → Option ℕ
left_after None left = left
left_after (Some found) left = option_map (λ count. count - 1) left

-- which messages these are
abbrev pub choice : Option ℕ → Option ℕ → Span → Choice
choice last limit s = record { span = s; last = last; limit = limit }

-- which messages `read` prints
abbrev pub read_choice : Option ℕ → Option ℕ → Bool → ℕ → ℕ → ℕ → Choice
read_choice last limit back start since until = choice last limit (read_span last back start since until)

-- which ones a round prints: those that `read` does, and from a place on the ones up to its limit
abbrev pub round_choice : Option ℕ → Option ℕ → Bool → Option ReadPlace → ℕ → ℕ → ℕ → Choice
round_choice last limit back None start since until = read_choice last limit back start since until
round_choice last limit back (Some place) start since until = choice None place.left (span false place.next until)

-- the place before the messages on a way, and before the last ones, which have no limit
abbrev pub place_for : Option ℕ → Option ℕ → Span → ReadPlace
place_for None limit s = place_at s.start limit
place_for (Some count) limit s = place_at s.stop None

-- the texts of these messages, and the place after them
pub record AreLines (line : Placed → List ℕ) (place : ReadPlace) (messages : List Placed) (lines : Lines) : Type 0 where
  pub text : lines.text.items ≡ flat_map line messages
  pub place_is : lines.place ≡ place_after place messages

-- the same of those that were chosen
abbrev pub AreChosenLines : (Placed → List ℕ) → Choice → List Placed → Lines → Type 0
AreChosenLines line c messages lines =
    AreLines line (place_for c.last c.limit c.span) (span_messages c.last c.limit c.span messages) lines

-- the queue was opened with what the folder's files hold, and these are the texts of its messages that are read from a place on,
-- or without one as the settings say, and the place after them
pub record AreRead (settings : ReadSettings) (back : Bool) (given : Option ReadPlace) (files : Option Files) (lines : Lines) : Type 0 where
  pub queue : ReadQueue
  pub from : IsReadFrom files queue
  pub start : ℕ
  pub start_is : IsStart back (option_map string_bytes settings.from) start
  pub bounds : Bounds
  pub bounds_are : AreBounds queue.opened.config settings bounds
  pub lines_are : AreChosenLines (formed settings.form (name_in queue.names.items))
      (round_choice settings.last settings.limit back given start bounds.since bounds.until) (readable_held queue.opened.held) lines

-- the index after the first message that was found; the other one is that after one more
abbrev pub first_after : Option ℕ → ℕ → Option ℕ
first_after None next = Some next
first_after (Some after) next = Some after
