-- A take that found nothing changed nothing, so another one follows it as if it were the first.
use Rattle.std.proofs.Common.{◌≡◌, ℕ, Bool, true, false, List, [], ◌∷◌, length, arith, ap, refl, sym, subst, ◌∙◌}
use Rattle.std.proofs.lemmas.List.{append-nil}
use Rattle.std.specs.Io.KnownBytes.{Appends, Keeps}
use Rattle.std.specs.List.{flat_map}
use Rattle.std.specs.Prelude.{Option, None, Some, Result, Ok, IfOk}
use Rattle.cq_folder.specs.Folder.{Files, KeepsFiles}
use Rattle.cq_files.specs.Queue.{contents_in}
use Rattle.cq_files.specs.declared.opening.SavedQueue.{SavedQueue}
use Rattle.cq_model.specs.Finds.{Placed}
use Rattle.cq_orders.specs.declared.settings.TakeSettings.{TakeSettings}
use Rattle.cq_text.specs.declared.fault.ToolFault.{ToolFault}
use Rattle.cq_commands.specs.Messages.{message_line}
use Rattle.cq_commands.specs.TakenBy.{IsTakenBy, MovesName, TellsTook, most_of, next_messages, took_of}
use Rattle.cq_commands.specs.declared.taking_by.Took.{Took}
use Rattle.cq_commands.specs.declared.taking_by.Took.TheVariants.{Messages, Nothing}
use Rattle.cq_commands.proofs.TakenLinesLemmas.{some_lines}

nothing_said : (text : List ℕ) → Nothing ≡ took_of text → text ≡ []
nothing_said [] is = refl
nothing_said (byte ∷ bytes) is = let other : Nothing ≡ Messages = is in cc

no_messages : (messages : List Placed) → [] ≡ flat_map message_line messages → messages ≡ []
no_messages [] is = refl
no_messages (message ∷ messages) is =
    let some = some_lines message messages in
    let none : 0 ≡ length (flat_map message_line (message ∷ messages)) = ap (λ (bytes : List ℕ). length bytes) is in
    absurd (omega (arith, some, none))

moves_nothing : (peek : Bool) (queue : SavedQueue) (place position : ℕ) (messages : List Placed) (before after : Option Files)
    → messages ≡ [] → MovesName peek queue place position messages before after → KeepsFiles before after
moves_nothing true queue place position messages before after none moves = kept messages moves
  where
    kept : (ms : List Placed) → MovesName true queue place position ms before after → KeepsFiles before after
    kept [] is = is
    kept (m ∷ ms) is = is
moves_nothing false queue place position messages before after none moves =
    subst (λ (ms : List Placed). MovesName false queue place position ms before after) none moves

appends_nothing : (old new : Option (List ℕ)) → Appends old new [] → Keeps old new
appends_nothing None new appends = tt
appends_nothing (Some xs) None appends = appends
appends_nothing (Some xs) (Some ys) appends = appends ∙ append-nil xs

-- a take that says that it found nothing left all files as they were, and wrote nothing
pub nothing_done : (settings : TakeSettings) (name : List ℕ) (before after : Option Files) (old new : Option (List ℕ)) (took : Took)
    → took ≡ Nothing → TellsTook old new (IsTakenBy settings.peek (most_of settings) name before after) took
    → KeepsFiles before after × Keeps old new
nothing_done settings name before after old new took is (text, taken, appends, said) =
    let none : text ≡ [] = nothing_said text (sym is ∙ said) in
    let empty : next_messages (most_of settings) taken.position (contents_in taken.queue) ≡ [] = no_messages
    (next_messages (most_of settings) taken.position (contents_in taken.queue)) (sym none ∙ taken.text_is) in (
      moves_nothing settings.peek taken.queue taken.place taken.position
          (next_messages (most_of settings) taken.position (contents_in taken.queue)) before after empty taken.moves,
      appends_nothing old new (subst (Appends old new) none appends),
    )

-- the same of a result
pub nothing_taken : (settings : TakeSettings) (name : List ℕ) (before after : Option Files) (old new : Option (List ℕ))
    (result : Result Took ToolFault) → result ≡ Ok Nothing
    → IfOk result (TellsTook old new (IsTakenBy settings.peek (most_of settings) name before after))
    → KeepsFiles before after × Keeps old new
nothing_taken settings name before after old new result is tells =
    nothing_done settings name before after old new Nothing refl
    (subst (λ (r : Result Took ToolFault). IfOk r (TellsTook old new (IsTakenBy settings.peek (most_of settings) name before after))) is tells)
