-- How a take with options ends.
use Rattle.std.proofs.Common.{◌≡◌, ◌≢◌, ◌⊎◌, Bool, true, false, ℕ, zero, suc, ◌+◌, ◌<◌, ◌≤◌, ◌++◌, List, [], ◌∷◌, Option, None, Some, length, ap, refl, rules, sym, subst, arith, ◌∙◌, inl, inr, slice_get, slice_set}
use Rattle.std.proofs.lemmas.List.{length-append}
use Rattle.std.specs.Io.KnownBytes.{Appends}
use Rattle.std.specs.List.{flat_map}
use Rattle.std.specs.Prelude.{Err, IfErr, IfOk, IfSome, IsErrAnd, Ok, OnErr, OnOk, Result}
use Rattle.cq_config_text.specs.ConfigText.{IsTextOf}
use Rattle.cq_cycle.specs.Index.{index_text}
use Rattle.cq_folder.specs.Folder.{Files, KeepsFiles, KeepsOrWrites, WritesFile}
use Rattle.cq_folder.specs.declared.names.TheConstants.{CONFIG_FILE}
use Rattle.cq_model.specs.Journals.{JournalFacts, ReaderFacts, next_in}
use Rattle.cq_model.specs.Finds.{Placed}
use Rattle.cq_model.specs.Settings.{Declares, Settings}
use Rattle.cq_model.specs.declared.contents.Contents.{Contents}
use Rattle.cq_model.specs.declared.direction.Direction.TheVariants.{Forwards}
use Rattle.cq_text.specs.Output.{AppendsBeginning}
use Rattle.cq_text.specs.declared.fault.ToolFault.{ToolFault}
use Rattle.cq_text.specs.declared.fault.ToolFault.TheVariants.{NoSuchName, OldVersion, OutOfMemory, WriteFault}
use Rattle.cq_text.proofs.FaultLemmas.{only_printing, passed_on}
use Rattle.cq_files.specs.Counted.{CountsFaults}
use Rattle.cq_files.specs.FolderFaults.{IsQueueFault}
use Rattle.cq_files.specs.Queue.{CanBeOpened, contents_in}
use Rattle.cq_files.proofs.CountLemmas.{counts_printed}
use Rattle.cq_files.proofs.QueueLemmas.{keeps-trans}
use Rattle.cq_files.proofs.WritingLemmas.{kept_then_wrote}
use Rattle.cq_commands.specs.Messages.{message_line}
use Rattle.cq_commands.specs.Opened.{HoldsContents, IsOpenedFrom, journal_with}
use Rattle.cq_commands.specs.QueueFaults.{IsNameFault, IsTakeFault}
use Rattle.cq_commands.specs.Taken.{IsTakenAs, TakesFrom}
use Rattle.cq_files.specs.Printing.{SavesAndPrints, TellsConfig}
use Rattle.cq_commands.specs.TakenBy.{HasTakenAll, AreTakenLines, IsTakeByFault, IsTakenBy, MovesName, TakesAll, TakesVersionBy, TellsTook, next_messages, position_after, took_of}
use Rattle.cq_commands.specs.declared.opened.OpenedQueue.{OpenedQueue}
use Rattle.cq_commands.specs.declared.taking_by.TakenLines.{TakenLines}
use Rattle.cq_commands.specs.declared.taking_by.Took.{Took}
use Rattle.cq_commands.specs.declared.taking_by.Took.TheVariants.{Messages}
use Rattle.cq_commands.proofs.OpeningLemmas.{opened_of}
use Rattle.cq_files.proofs.SaverLemmas.{EndsSaving, no_value}
use Rattle.cq_commands.proofs.TakingByLemmas.{position_of}
use Rattle.cq_files.proofs.PrintingLemmas.{nothing_saved, saved_then_printed}

no_empty_line : (xs ys : List ℕ) (n : ℕ) → 0 < length (xs ++ n ∷ ys)
no_empty_line [] ys n = omega arith
no_empty_line (x ∷ xs) ys n = omega arith

-- the lines of messages of which the first is this one are longer than those of the others
one_line_less : (f : Placed) (all rest : List Placed) → all ≡ f ∷ rest → length (flat_map message_line rest) < length (flat_map message_line all)
one_line_less f all rest is =
    let whole : length (flat_map message_line all) ≡ length (message_line f) + length (flat_map message_line rest) =
    ap (λ (l : List Placed). length (flat_map message_line l)) is ∙ length-append (message_line f) (flat_map message_line rest) in
    let line : 0 < length (message_line f) = no_empty_line (index_text f.0 ++ 32 ∷ f.1) [] 10 in
    omega (arith, whole, line)

-- where there is a message there is a line
pub some_lines : (message : Placed) (messages : List Placed) → 0 < length (flat_map message_line (message ∷ messages))
some_lines message messages =
    let less = one_line_less message (message ∷ messages) messages refl in
    omega (arith, less)

took_some : (text : List ℕ) → 0 < length text → Messages ≡ took_of text
took_some [] some = absurd (omega (arith, some))
took_some (byte ∷ bytes) some = refl

no_lines : (messages : List Placed) (lines : List ℕ) → lines ≡ flat_map message_line messages → length lines ≡ 0 → messages ≡ []
no_lines [] lines is none = refl
no_lines (message ∷ messages) lines is none =
    let some = some_lines message messages in
    let same = ap length is in
    absurd (omega (arith, some, same, none))

-- what was taken of a journal, as it is printed and saved: nothing, or lines and a text
module _ (journal : JournalFacts) (settings : Settings) (old new : ReaderFacts) (name : List ℕ) (most : ℕ) (messages : List Placed)
    (old_is : old.journal ≡ journal) (names : journal.settings.names ≡ settings.names) (has : HasTakenAll old new name most messages) where
  takes_so : (taken : Option TakenLines) → AreTakenLines (journal_with settings old.journal.contents) has.place has.position messages taken
      → TakesAll (journal_with settings journal.contents) name most taken
  takes_so taken is = subst (λ (j : JournalFacts). TakesAll (journal_with settings j.contents) name most taken) old_is (record {
    place = has.place;
    named = subst (λ (ns : List (List ℕ)). slice_get ns has.place ≡ Some name)
        (ap (λ (j : JournalFacts). j.settings.names) old_is ∙ names) has.named;
    position = has.position;
    stood = has.stood;
    taken_is = subst (λ (ms : List Placed). AreTakenLines (journal_with settings old.journal.contents) has.place has.position ms taken) has.messages_are is;
  })

  pub no_lines_taken : (lines : List ℕ) → lines ≡ flat_map message_line messages → length lines ≡ 0
      → TakesAll (journal_with settings journal.contents) name most None
  no_lines_taken lines lines_are none = takes_so None
      (subst (λ (ms : List Placed). AreTakenLines (journal_with settings old.journal.contents) has.place has.position ms None)
      (sym (no_lines messages lines lines_are none)) tt)

  pub lines_were_taken : (taken : TakenLines) → taken.lines.items ≡ flat_map message_line messages → ¬ (length taken.lines.items ≡ 0)
      → IsTextOf settings new.journal.contents.positions new.journal.contents.floor taken.config.items
      → TakesAll (journal_with settings journal.contents) name most (Some taken)
  lines_were_taken taken lines_are some text = takes_so (Some taken) (by messages lines_are
      (subst (λ (c : Contents). IsTextOf settings c.positions c.floor taken.config.items) has.contents text))
    where
      by : (ms : List Placed) → taken.lines.items ≡ flat_map message_line ms
          → IsTextOf settings (slice_set old.journal.contents.positions has.place (position_after has.position ms)) old.journal.contents.floor taken.config.items
          → AreTakenLines (journal_with settings old.journal.contents) has.place has.position ms (Some taken)
      by [] is text = absurd (some (ap length is))
      by (m ∷ ms) is text = (is, text)

-- where no cycle has begun there is nothing to take
pub nothing_begun : (settings : Settings) (contents : Contents) (name : List ℕ) (most : ℕ) → length contents.positions ≡ length settings.names
    → contents.lists ≡ [] → Declares settings name → TakesAll (journal_with settings contents) name most None
nothing_begun settings contents name most paired none declared =
    let stands = position_of settings contents declared.0 name paired declared.1 in
    record {
      place = declared.0;
      named = declared.1;
      position = stands.0;
      stood = stands.1;
      taken_is = subst (λ (ms : List Placed). AreTakenLines (journal_with settings contents) declared.0 stands.0 ms None) (sym (empty stands.0)) tt;
    }
  where
    empty : (position : ℕ) → next_messages most position contents ≡ []
    empty position = ap (λ ls. next_messages most position (record contents { lists = ls })) none ∙ of_none most
      where
        of_none : (count : ℕ) → next_messages count position (record contents { lists = [] }) ≡ []
        of_none zero = refl
        of_none (suc count) = refl

-- and the next message is none
pub none_begun : (settings : Settings) (contents : Contents) (name : List ℕ) → length contents.positions ≡ length settings.names
    → contents.lists ≡ [] → Declares settings name → TakesFrom (journal_with settings contents) name None
none_begun settings contents name paired none declared =
    let stands = position_of settings contents declared.0 name paired declared.1 in
    record {
      place = declared.0;
      named = declared.1;
      position = stands.0;
      stood = stands.1;
      taken_is = subst (λ (found : Option Placed). IsTakenAs (journal_with settings contents) declared.0 found None) (sym (empty stands.0)) tt;
    }
  where
    empty : (position : ℕ) → next_in Forwards contents position ≡ None
    empty position = ap (λ ls. next_in Forwards (record contents { lists = ls }) position) none

-- no cycle has begun where nothing is held
pub unheld : (settings : Settings) (contents : Contents) (held : Option JournalFacts) → held ≡ None → HoldsContents settings contents held
    → contents.lists ≡ []
unheld settings contents held none holds = subst (HoldsContents settings contents) none holds

-- what is held of each queue that the opened one may be holds of this one
module _ {before : Option Files} {opened : OpenedQueue} (middle : Option Files) (name : List ℕ) (most : ℕ) (from : IsOpenedFrom before opened)
    (kept : KeepsFiles before middle) where
  pub takes_held : (taken : Option TakenLines) → ((contents : Contents) → length contents.positions ≡ length opened.config.names
      → CanBeOpened opened.config contents → HoldsContents opened.config contents opened.held
      → TakesAll (journal_with opened.config contents) name most taken)
      → TakesAll (journal_with opened.config (contents_in from.queue)) name most taken
  takes_held taken all = all (contents_in from.queue) (from.lawful.paired ∙ sym (ap (λ (s : Settings). length s.names) from.settings))
      (subst (λ (s : Settings). CanBeOpened s (contents_in from.queue)) (sym from.settings) from.openable)
      (subst (λ (s : Settings). HoldsContents s (contents_in from.queue) opened.held) (sym from.settings) from.held_is)

  taken_by : (peek : Bool) (after : Option Files) (text : List ℕ) (taken : Option TakenLines)
      (takes : TakesAll (journal_with opened.config (contents_in from.queue)) name most taken)
      → text ≡ flat_map message_line (next_messages most takes.position (contents_in from.queue))
      → MovesName peek from.queue takes.place takes.position (next_messages most takes.position (contents_in from.queue)) before after
      → IsTakenBy peek most name before after text
  taken_by peek after text taken takes text_is moves = record {
    queue = from.queue;
    lawful = from.lawful;
    held = from.held;
    openable = from.openable;
    place = takes.place;
    named = subst (λ (s : Settings). slice_get s.names takes.place ≡ Some name) from.settings takes.named;
    position = takes.position;
    stood = takes.stood;
    text_is = text_is;
    moves = moves;
  }

  -- nothing was there
  pub nothing_by : (peek : Bool) → TakesAll (journal_with opened.config (contents_in from.queue)) name most None
      → IsTakenBy peek most name before middle []
  nothing_by peek takes =
      taken_by peek middle [] None takes (ap (flat_map message_line) (sym none))
      (subst (λ (ms : List Placed). MovesName peek from.queue takes.place takes.position ms before middle) (sym none) (stays peek))
    where
      none_of : (ms : List Placed) → AreTakenLines (journal_with opened.config (contents_in from.queue)) takes.place takes.position ms None → ms ≡ []
      none_of [] is = refl
      none_of (m ∷ ms) is = absurd is

      none : next_messages most takes.position (contents_in from.queue) ≡ []
      none = none_of (next_messages most takes.position (contents_in from.queue)) takes.taken_is

      stays : (p : Bool) → MovesName p from.queue takes.place takes.position [] before middle
      stays true = kept
      stays false = kept

  module _ (taken : TakenLines) (takes : TakesAll (journal_with opened.config (contents_in from.queue)) name most (Some taken)) where
    lines_of : (ms : List Placed) → AreTakenLines (journal_with opened.config (contents_in from.queue)) takes.place takes.position ms (Some taken)
        → (taken.lines.items ≡ flat_map message_line ms) × (0 < length taken.lines.items)
    lines_of [] is = absurd is
    lines_of (m ∷ ms) is = (is.0, subst (λ (text : List ℕ). 0 < length text) (sym is.0) (some_lines m ms))

    lines : (taken.lines.items ≡ flat_map message_line (next_messages most takes.position (contents_in from.queue)))
        × (0 < length taken.lines.items)
    lines = lines_of (next_messages most takes.position (contents_in from.queue)) takes.taken_is

    -- there were messages
    pub took_lines : (text : List ℕ) → text ≡ taken.lines.items → Messages ≡ took_of text
    took_lines text is = took_some text (subst (λ (ls : List ℕ). 0 < length ls) (sym is) lines.1)

    -- they were looked at
    pub looked_at : (text : List ℕ) → text ≡ taken.lines.items → IsTakenBy true most name before middle text
    looked_at text is = taken_by true middle text (Some taken) takes (is ∙ lines.0)
        (stays (next_messages most takes.position (contents_in from.queue)))
      where
        stays : (ms : List Placed) → MovesName true from.queue takes.place takes.position ms before middle
        stays [] = kept
        stays (m ∷ ms) = kept

    -- they were taken
    pub lines_saved : (after : Option Files) (text : List ℕ) → text ≡ taken.lines.items → WritesFile middle after CONFIG_FILE.now taken.config.items
        → IsTakenBy false most name before after text
    lines_saved after text is wrote = taken_by false after text (Some taken) takes (is ∙ lines.0)
        (moves (next_messages most takes.position (contents_in from.queue)) takes.taken_is)
      where
        moves : (ms : List Placed) → AreTakenLines (journal_with opened.config (contents_in from.queue)) takes.place takes.position ms (Some taken)
            → MovesName false from.queue takes.place takes.position ms before after
        moves [] is = absurd is
        moves (m ∷ ms) is = (
          taken.config.items,
          subst (λ (s : Settings). IsTextOf s (slice_set from.queue.contents.positions takes.place (position_after takes.position (m ∷ ms)))
              from.queue.contents.floor taken.config.items) from.settings is.1,
          kept_then_wrote before middle after CONFIG_FILE.now taken.config.items kept wrote,
        )

    -- what was taken is saved, or nothing is
    pub lines_or_kept : (after : Option Files) → KeepsOrWrites middle after ((CONFIG_FILE.now, taken.config.items) ∷ [])
        → KeepsFiles before after ⊎ ((text : List ℕ) × IsTakenBy false most name before after text)
    lines_or_kept after (inl same) = inl (keeps-trans before middle after kept same)
    lines_or_kept after (inr wrote) = inr (taken.lines.items, lines_saved after taken.lines.items refl wrote)

-- why messages are not looked at under a name of the queue that was opened
module _ {a : Option Files} {opened : OpenedQueue} (name : List ℕ) (from : IsOpenedFrom a opened) where
  looked_so : (fault : ToolFault) → ((fault ≡ NoSuchName) × ¬ Declares opened.config name) ⊎ (Declares opened.config name × (fault ≡ WriteFault))
      → IfSome a (λ files. IsTakeByFault true name files fault)
  looked_so fault cause = by a refl
    where
      by : (o : Option Files) → a ≡ o → IfSome o (λ files. IsTakeByFault true name files fault)
      by None held = tt
      by (Some files) held = inr (record {
        queue = from.queue;
        opened = opened_of a opened from files held;
        cause = subst (λ (s : Settings). ((fault ≡ NoSuchName) × ¬ Declares s name) ⊎ (Declares s name × (fault ≡ WriteFault))) from.settings cause;
      })

  pub look_refused : (fault : ToolFault) → IsNameFault opened.config name fault → IfSome a (λ files. IsTakeByFault true name files fault)
  look_refused fault (inr (is, none)) = looked_so fault (inl (is, none))
  look_refused fault (inl memory) = by a
    where
      by : (o : Option Files) → IfSome o (λ files. IsTakeByFault true name files fault)
      by None = tt
      by (Some files) = inl (inr (subst (IsQueueFault files) (sym memory) (tt, tt)))

  pub look_unwritten : Declares opened.config name → IfSome a (λ files. IsTakeByFault true name files WriteFault)
  look_unwritten declared = looked_so WriteFault (inr (declared, refl))

-- a name that is at fault is no old folder
pub name_not_old : (settings : Settings) (name : List ℕ) (fault : ToolFault) → IsNameFault settings name fault → fault ≢ OldVersion
name_not_old settings name fault (inl memory) is = let never : OutOfMemory ≡ OldVersion = sym memory ∙ is in cc
name_not_old settings name fault (inr (none, undeclared)) is = let never : NoSuchName ≡ OldVersion = sym none ∙ is in cc

-- what is said of a text that was printed
pub tells_took : (result : Result Took ToolFault) (old new : Option (List ℕ)) (IsText : List ℕ → Type 0) (text : List ℕ) → IsText text
    → Messages ≡ took_of text → OnOk result (Appends old new text) → IfOk result (λ took. took ≡ Messages) → IfOk result (TellsTook old new IsText)
tells_took (Ok took) old new IsText text is some written took_is = (text, is, written, took_is ∙ some)
tells_took (Err fault) old new IsText text is some written took_is = tt

-- how a take ends
abbrev pub EndsTaking : Option Files → Option Files → Option (List ℕ) → Option (List ℕ) → ℕ → ℕ → List ℕ → ℕ → Result Took ToolFault → Type 0
EndsTaking before after old new was now name most result = record {
  saved : SavesAndPrints before after old new (IsTakenBy false most name before after) result;
  took : IfOk result (TellsTook old new (IsTakenBy false most name before after));
  cause : IfErr result (λ fault. IfSome before (λ files. IsTakeByFault false name files fault));
  told : IfErr result (λ fault. KeepsFiles before after ⊎ TellsConfig fault);
  version : TakesVersionBy false before result;
  counted : CountsFaults was now result;
}

pub with_took : {before after : Option Files} {old new : Option (List ℕ)} {was now : ℕ} (name : List ℕ) (most : ℕ) (result : Result Took ToolFault)
    → EndsSaving before after old new was now (IsTakenBy false most name before after) (IsTakeFault name) TellsConfig result
    → IfOk result (TellsTook old new (IsTakenBy false most name before after)) → EndsTaking before after old new was now name most result
with_took name most result ends took = record {
  saved = ends.saved;
  took = took;
  cause = ends.cause;
  told = ends.told;
  version = ends.version;
  counted = ends.counted;
}

-- how a look ends
abbrev pub EndsLooking : Option Files → Option Files → Option (List ℕ) → Option (List ℕ) → ℕ → ℕ → List ℕ → ℕ → Result Took ToolFault → Type 0
EndsLooking before after old new was now name most result = record {
  saved : SavesAndPrints before after old new (IsTakenBy true most name before after) result;
  took : IfOk result (TellsTook old new (IsTakenBy true most name before after));
  cause : IfErr result (λ fault. IfSome before (λ files. IsTakeByFault true name files fault));
  kept : KeepsFiles before after;
  version : TakesVersionBy true before result;
  counted : CountsFaults was now result;
}

module _ {before after : Option Files} {was now : ℕ} (name : List ℕ) (most : ℕ) (result : Result Took ToolFault) (kept : KeepsFiles before after) where
  pub look_failed : {output : Option (List ℕ)} (fault : ToolFault) → IsErrAnd result (λ passed. passed ≡ fault)
      → IfSome before (λ files. IsTakeByFault true name files fault) → fault ≢ WriteFault → fault ≢ OldVersion
      → CountsFaults was now result → EndsLooking before after output output was now name most result
  look_failed {output} fault is cause other young counted = record {
    saved = nothing_saved before after output (IsTakenBy true most name before after) result fault is other kept;
    took = no_value result _ fault is;
    cause = passed_on result (λ fault. IfSome before (λ files. IsTakeByFault true name files fault)) fault is cause;
    kept = kept;
    version = passed_on result (λ fault. fault ≢ OldVersion) fault is young;
    counted = counted;
  }

  pub look_ended : {old new : Option (List ℕ)} (text : List ℕ) → IsTakenBy true most name before after text
      → OnOk result (Appends old new text) → IfErr result (λ fault. fault ≡ WriteFault) → OnErr result (AppendsBeginning old new text)
      → IfOk result (TellsTook old new (IsTakenBy true most name before after))
      → IfSome before (λ files. IsTakeByFault true name files WriteFault) → was ≤ now
      → EndsLooking before after old new was now name most result
  look_ended {old} {new} text taken written fault begun took cause later = record {
    saved = saved_then_printed before after old new (IsTakenBy true most name before after) result text taken written fault begun;
    took = took;
    cause = only_printing result (λ fault. IfSome before (λ files. IsTakeByFault true name files fault)) cause fault;
    kept = kept;
    version = only_printing result (λ fault. fault ≢ OldVersion) (search rules) fault;
    counted = counts_printed was now result later fault;
  }
