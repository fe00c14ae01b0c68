-- What the calls say that hand out the calls of a log.
use Rattle.std.specs.Prelude.{◌≡◌, ◌⊎◌, ◌<◌, ◌++◌, ℕ, Bool, List, Result, Ok, Err, Some, drop, false, length, slice_get, true}
use Rattle.cq_kept_calls.specs.CallKeepers.{AreAllMade, CallKeeperFacts, asked_calls, let_go_of}
use Rattle.cq_kept_calls.specs.Turns.{Notes}
use Rattle.cq_kept_calls.specs.declared.fault.CallFault.{CallFault}
use Rattle.cq_kept_calls.specs.declared.fault.CallFault.TheVariants as unnoted
use Rattle.cq_log_file.specs.Event.{Event}
use Rattle.cq_log_file.specs.declared.record.Call.{Call}
use Rattle.cq_log_file.specs.declared.record.Call.TheVariants as call
use Rattle.linnetshelf.specs.Statuses.{number}
use Rattle.linnetshelf.specs.declared.log_calls.CallInto.{CallInto}
use Rattle.linnetshelf.specs.declared.log_calls.CallInto.TheVariants as into
use Rattle.linnetshelf.specs.declared.log_calls.LogAnswer.{LogAnswer}
use Rattle.linnetshelf.specs.declared.status.Status.{Status}
use Rattle.linnetshelf.specs.declared.status.Status.TheVariants as status

-- the oldest call that is left, with its bytes
pub record IsNextCall (keeper : CallKeeperFacts) (which : Call) (bytes : List ℕ) : Type 0 where
  pub event : Event
  pub at : slice_get (asked_calls keeper.kept) keeper.made ≡ Some event
  pub which_is : which ≡ event.call
  pub bytes_are : bytes ≡ event.bytes

-- the bytes of a call are the first of a buffer that is large enough; or it is smaller, and as it was
abbrev pub CopiesCall : List ℕ → List ℕ → List ℕ → CallInto → Type 0
CopiesCall bytes room full (into.Copied which len) = (length bytes ≡ len) × (full ≡ bytes ++ drop len room)
CopiesCall bytes room full (into.NoRoom which len) = (length bytes ≡ len) × (length room < len) × (full ≡ room)
CopiesCall bytes room full _ = ⊥

-- this is what was copied, or was to be
abbrev pub IsOfCall : Call → CallInto → Type 0
IsOfCall which (into.Copied found len) = found ≡ which
IsOfCall which (into.NoRoom found len) = found ≡ which
IsOfCall which _ = ⊥

-- the oldest call that is left was copied to a buffer; or why it was not, and the buffer is as it was
abbrev pub HandsCall : CallKeeperFacts → List ℕ → List ℕ → CallInto → Type 0
HandsCall keeper room full (into.Copied which len) =
    (bytes : List ℕ) × IsNextCall keeper which bytes × CopiesCall bytes room full (into.Copied which len)
HandsCall keeper room full (into.NoRoom which len) =
    (bytes : List ℕ) × IsNextCall keeper which bytes × CopiesCall bytes room full (into.NoRoom which len)
HandsCall keeper room full into.NoCall = (keeper.is_stopped ≡ false) × AreAllMade keeper × (full ≡ room)
HandsCall keeper room full into.Stopped = ((keeper.is_stopped ≡ true) ⊎ (keeper.made < let_go_of keeper.kept)) × (full ≡ room)

-- the number that C has for a call; the last three are never left to make
abbrev pub kind_of : Call → ℕ
kind_of (call.Write at) = 0
kind_of (call.Cut len) = 1
kind_of call.Sync = 2
kind_of call.SyncFolder = 3
kind_of call.Lock = 4
kind_of call.Find = 5
kind_of call.Read = 6

-- where a write is to go, or to what length the file is to be cut
abbrev pub place_of : Call → ℕ
place_of (call.Write at) = at
place_of (call.Cut len) = len
place_of _ = 0

-- a call of a log, with the length of its bytes
abbrev pub call_of : Call → ℕ → Status → LogAnswer
call_of which len how = record { place = place_of which; length = len; kind = kind_of which; status = number how }

-- an answer that has only a status
abbrev pub no_call : Status → LogAnswer
no_call how = record { place = 0; length = 0; kind = 0; status = number how }

-- what `log_call` answers
abbrev pub call_answer : CallInto → LogAnswer
call_answer (into.Copied which len) = call_of which len status.Done
call_answer (into.NoRoom which len) = call_of which len status.NoRoom
call_answer into.NoCall = no_call status.NoCall
call_answer into.Stopped = no_call status.LogStopped

-- it was noted how a call went; or why not, and nothing changed
abbrev pub NotesCall : CallKeeperFacts → CallKeeperFacts → Bool → Result Unit CallFault → Type 0
NotesCall old new is_done (Ok u) = (old.is_stopped ≡ false) × Notes is_done old new
NotesCall old new is_done (Err unnoted.NoCall) = (old.is_stopped ≡ false) × AreAllMade old × (new ≡ old)
NotesCall old new is_done (Err unnoted.Stopped) = (old.is_stopped ≡ true) × (new ≡ old)

-- what `log_done` answers
abbrev pub note_answer : Result Unit CallFault → ℕ
note_answer (Ok u) = number status.Done
note_answer (Err unnoted.NoCall) = number status.NoCall
note_answer (Err unnoted.Stopped) = number status.LogStopped
