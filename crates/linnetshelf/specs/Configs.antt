-- What the calls say that read and write the text of `queue.cqc`.
use Rattle.std.specs.Prelude.{◌≡◌, List, ℕ, Result, Ok, Err}
use Rattle.cq_config_text.specs.ConfigFault.{RefusesText}
use Rattle.cq_config_text.specs.ConfigText.{IsTextOf}
use Rattle.cq_config_text.specs.declared.config_fault.ConfigFault.{ConfigFault}
use Rattle.cq_config_text.specs.declared.config_fault.ConfigFault.TheVariants as fault
use Rattle.cq_foreign.specs.Copies.{CopiesBytes}
use Rattle.cq_foreign.specs.declared.copying.Copied.{Copied}
use Rattle.cq_handle.specs.declared.held.Held.{Held}
use Rattle.cq_handle.specs.declared.held.Held.TheVariants as held
use Rattle.cq_saved.specs.Saved.{SavedFacts}
use Rattle.cq_saved.specs.Texts.{CanBeWritten, IsReadFrom}
use Rattle.linnetshelf.specs.Answers.{answer_of, plain}
use Rattle.linnetshelf.specs.Makes.{HandsOut}
use Rattle.linnetshelf.specs.declared.answer.Answer.{Answer}
use Rattle.linnetshelf.specs.declared.status.Status.{Status}
use Rattle.linnetshelf.specs.declared.status.Status.TheVariants as status

-- what a text keeps was handed out, or memory was refused to that
pub record HandsOutRead (text : List ℕ) (old new : Held) (how : Status) : Type 0 where
  pub saved : SavedFacts
  pub read : IsReadFrom text saved
  pub hands_out : HandsOut old (held.Saved saved) new how

-- a text was read and what it keeps handed out; or why it was not read, and nothing was handed out
abbrev pub ReadsConfig : List ℕ → Held → Held → Result Status ConfigFault → Type 0
ReadsConfig text old new (Ok how) = HandsOutRead text old new how
ReadsConfig text old new (Err cause) = RefusesText cause text × (new ≡ old)

-- what `config_read` answers: the number of a line at fault
abbrev pub config_answer : Result Status ConfigFault → Answer
config_answer (Ok how) = plain how
config_answer (Err (fault.Line line)) = answer_of line 0 status.BadSettings
config_answer (Err fault.BadShape) = plain status.BadSettings
config_answer (Err fault.BadConfig) = plain status.BadSettings
config_answer (Err fault.OutOfMemory) = plain status.OutOfMemory

-- the text of the settings, the positions and the floor was copied to a buffer, or not for want of room
pub record CopiesText (saved : SavedFacts) (room full : List ℕ) (came : Copied) : Type 0 where
  pub text : List ℕ
  pub text_is : IsTextOf saved.settings saved.contents.positions saved.contents.floor text
  pub copies : CopiesBytes text room full came

-- the text was copied to a buffer; or why not, and the buffer is as it was
abbrev pub WritesConfig : SavedFacts → List ℕ → List ℕ → Result Copied Status → Type 0
WritesConfig saved room full (Ok came) = CopiesText saved room full came
WritesConfig saved room full (Err status.BadContents) = (¬ CanBeWritten saved) × (full ≡ room)
WritesConfig saved room full (Err status.OutOfMemory) = full ≡ room
WritesConfig saved room full (Err _) = ⊥
