-- What the call says that plays a log on what is saved.
use Rattle.std.specs.Prelude.{◌≡◌, ℕ, List, Result, Ok, Err}
use Rattle.cq_replay.specs.declared.fault.ReplayFault.{ReplayFault}
use Rattle.cq_replay.specs.declared.fault.ReplayFault.TheVariants as replay
use Rattle.cq_saved.specs.Plays.{IsPlayFault, PlaysLog}
use Rattle.cq_saved.specs.Saved.{SavedFacts}
use Rattle.cq_saved.specs.declared.fault.PlayFault.{PlayFault}
use Rattle.cq_saved.specs.declared.fault.PlayFault.TheVariants as unplayed
use Rattle.linnetshelf.specs.Answers.{answer_of, done, plain}
use Rattle.linnetshelf.specs.declared.answer.Answer.{Answer}
use Rattle.linnetshelf.specs.declared.status.Status.TheVariants as status

-- a log was played on what is saved; or why not, and nothing changed
abbrev pub Plays : SavedFacts → SavedFacts → List ℕ → Result ℕ PlayFault → Type 0
Plays old new log (Ok turns) = PlaysLog old new log turns
Plays old new log (Err fault) = IsPlayFault old log fault × (new ≡ old)

-- the frame with this number is at fault
abbrev pub bad_turn : ℕ → Answer
bad_turn frame = answer_of frame 0 status.BadTurn

-- what is wrong with a log
abbrev pub replay_answer : ReplayFault → Answer
replay_answer (replay.BadHead fault) = plain status.BadHead
replay_answer (replay.DoesNotFit difference) = plain status.OtherLog
replay_answer (replay.BadFrame frame fault) = bad_turn frame
replay_answer (replay.Unplayable frame note misfit) = bad_turn frame
replay_answer replay.OutOfMemory = plain status.OutOfMemory

-- what `play` answers: how many turns were played
abbrev pub play_answer : Result ℕ PlayFault → Answer
play_answer (Ok turns) = done turns
play_answer (Err unplayed.BadContents) = plain status.BadContents
play_answer (Err (unplayed.Log fault)) = replay_answer fault
play_answer (Err unplayed.BadGain) = plain status.BadGain
play_answer (Err unplayed.OutOfMemory) = plain status.OutOfMemory
