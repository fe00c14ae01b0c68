-- What the calls say that tell how a queue was made.
use Rattle.std.specs.Prelude.{◌≡◌, Option, Some, None, Result, Ok, Err}
use Rattle.cq_foreign.specs.Rolls.{roll_number}
use Rattle.cq_foreign.specs.declared.copying.Copied.{Copied}
use Rattle.cq_foreign.specs.declared.copying.Copied.TheVariants as copied
use Rattle.cq_handle.specs.declared.held.Held.{Held}
use Rattle.cq_handle.specs.declared.held.Held.TheVariants as held
use Rattle.cq_model.specs.Settings as model
use Rattle.cq_shown.specs.Plans.{settings_in}
use Rattle.linnetshelf.specs.Answers.{plain, read, too_long}
use Rattle.linnetshelf.specs.declared.answer.Answer.{Answer}
use Rattle.linnetshelf.specs.declared.settings.Settings.{Settings}
use Rattle.linnetshelf.specs.declared.status.Status.{Status}
use Rattle.linnetshelf.specs.declared.status.Status.TheVariants as status

-- a call on an endpoint or on what is saved says this of its settings; where the handle holds something else, the answer is
-- wrong. What the handle holds stays so
abbrev pub OnSettings : Held → Held → Type 0 → (model.Settings → Type 0) → Type 0
OnSettings (held.Endpoint e) now Wrong Says = (now ≡ held.Endpoint e) × Says (settings_in e.queue.plan)
OnSettings (held.Saved saved) now Wrong Says = (now ≡ held.Saved saved) × Says saved.settings
OnSettings other now Wrong Says = (now ≡ other) × Wrong

-- these settings as C has them
abbrev pub settings_for : model.Settings → Settings
settings_for s = record {
  epoch = s.epoch;
  cells = s.layout.cells;
  index_count = s.layout.index_count;
  index_spacing = s.layout.index_spacing;
  cycles = s.cycles;
  roll = roll_number s.roll;
}

-- what a call answers that copies bytes to a buffer
abbrev pub copied_answer : Copied → Answer
copied_answer (copied.Whole len) = read 0 len
copied_answer (copied.NoRoom len) = too_long len

-- the same, where it may be refused
abbrev pub copy_answer : Result Copied Status → Answer
copy_answer (Ok came) = copied_answer came
copy_answer (Err how) = plain how

-- what `names_of` answers
abbrev pub name_answer : Option Copied → Answer
name_answer (Some came) = copied_answer came
name_answer None = plain status.NoSuchPlace
