-- What is taken by one save, and what single takes take.
use Rattle.std.proofs.Common.{◌≡◌, ◌≢◌, false, ℕ, zero, suc, ◌+◌, ◌-◌, ◌++◌, List, [], ◌∷◌, Option, None, Some, AllPairs, length, ap, refl, sym, subst, arith, ◌∙◌, inl, inr, slice_get, slice_set}
use Rattle.std.proofs.lemmas.Option.{get_or_from_slice_get, slice_get-get_or, slice_get_within}
use Rattle.std.specs.List.{flat_map}
use Rattle.cq_model.specs.Journals.{HasTaken, JournalFacts, ReaderFacts, cursor_behind, next_in, with_taken}
use Rattle.cq_model.proofs.TakeLemmas.{slice_get-set_same}
use Rattle.cq_model.proofs.TestLemmas.{Compared, three_ways}
use Rattle.cq_model.specs.Finds.{Placed}
use Rattle.cq_model.specs.Settings.{Declares, Settings}
use Rattle.cq_model.specs.States.{AreLawfulContents, Rises}
use Rattle.cq_model.specs.declared.contents.Contents.{Contents}
use Rattle.cq_model.specs.declared.direction.Direction.TheVariants.{Forwards}
use Rattle.cq_commands.specs.Messages.{asked, begun_with, limited, message_line, readable}
use Rattle.cq_commands.specs.TakenBy.{HasTakenAll, TakeInTurn, next_messages, position_after, with_position}
use Rattle.cq_commands.proofs.FindingLemmas.{next_asked, none_asked}
use Rattle.cq_contents.proofs.FewLemmas.{AreFew}
use Rattle.cq_commands.proofs.PrintingLemmas.{no_line_left, one_line_more}
use Rattle.cq_commands.proofs.SpanLemmas.{none_limited, one_limited}

-- distinct names have distinct places
one_place : (names : List (List ℕ)) (name : List ℕ) (i j : ℕ) → AllPairs (λ one other. one ≢ other) names → Compared i j
    → slice_get names i ≡ Some name → slice_get names j ≡ Some name → i ≡ j
one_place names name i j distinct (inr (inl same)) at_i at_j = same
one_place names name i j distinct (inl below) at_i at_j = absurd (distinct i j [] below (slice_get_within names j name at_j)
    (get_or_from_slice_get names i name [] at_i ∙ sym (get_or_from_slice_get names j name [] at_j)))
one_place names name i j distinct (inr (inr above)) at_i at_j = absurd (distinct j i [] above (slice_get_within names i name at_i)
    (get_or_from_slice_get names j name [] at_j ∙ sym (get_or_from_slice_get names i name [] at_i)))

same_some : (x y : ℕ) → Some x ≡ Some y → x ≡ y
same_some x y is = cc

-- a position that is written as it was, and one that is written twice
set_same : (xs : List ℕ) (i x : ℕ) → slice_get xs i ≡ Some x → slice_set xs i x ≡ xs
set_same [] i x is = refl
set_same (y ∷ xs) zero x is = ap (λ (z : ℕ). z ∷ xs) (sym (same_some y x is))
set_same (y ∷ xs) (suc i) x is = ap (λ (zs : List ℕ). y ∷ zs) (set_same xs i x is)

set_twice : (xs : List ℕ) (i x y : ℕ) → slice_set (slice_set xs i x) i y ≡ slice_set xs i y
set_twice [] i x y = refl
set_twice (z ∷ xs) zero x y = refl
set_twice (z ∷ xs) (suc i) x y = ap (λ (zs : List ℕ). z ∷ zs) (set_twice xs i x y)

-- nothing is left of a number of messages that is 0
none_left : (most position : ℕ) (contents : Contents) → most ≡ 0 → next_messages most position contents ≡ []
none_left most position contents none = ap (λ (count : ℕ). next_messages count position contents) none

some_left : (most : ℕ) → ¬ (most ≡ 0) → ¬ (Some most ≡ Some 0)
some_left most some same = some (same_some most 0 same)

-- and nothing is left of none
none_of : (count : ℕ) → limited (Some count) [] ≡ []
none_of zero = refl
none_of (suc count) = refl

-- what comes next from a position is the first message that is taken from there
next_taken : (journal : JournalFacts) (most position : ℕ) (found : Option Placed) → Rises journal.contents.lists → AreFew journal.contents.lists
    → ¬ (most ≡ 0) → found ≡ next_in Forwards journal.contents position
    → next_messages most position journal.contents
    ≡ begun_with found (next_messages (most - 1) (cursor_behind Forwards found position) journal.contents)
next_taken journal most position found rises few some is = by found is
  where
    by : (o : Option Placed) → o ≡ next_in Forwards journal.contents position
        → next_messages most position journal.contents
        ≡ begun_with o (next_messages (most - 1) (cursor_behind Forwards o position) journal.contents)
    by None none = ap (limited (Some most)) (none_asked false journal.contents position rises few none) ∙ none_limited (Some most)
    by (Some f) one =
        ap (limited (Some most)) (next_asked false journal.contents position f rises few one)
        ∙ one_limited (Some most) f (asked false (cursor_behind Forwards (Some f) position) (readable journal.contents)) (some_left most some)

-- the name with this place has come to this position, and nothing else has changed
pub record IsAt (old now : ReaderFacts) (place position : ℕ) : Type 0 where
  pub settings : now.journal.settings ≡ old.journal.settings
  pub contents : now.journal.contents ≡ with_position old.journal.contents place position

pub at_start : (old : ReaderFacts) (place position : ℕ) → slice_get old.journal.contents.positions place ≡ Some position
    → IsAt old old place position
at_start old place position stood = record {
  settings = refl;
  contents = sym (ap (λ (ps : List ℕ). record old.journal.contents { positions = ps })
      (set_same old.journal.contents.positions place position stood));
}

-- what a take found from there, and where the name is after it
record Steps (old new : ReaderFacts) (place position : ℕ) (found : Option Placed) : Type 0 where
  found_is : found ≡ next_in Forwards old.journal.contents position
  at : IsAt old new place (cursor_behind Forwards found position)

module _ (old : ReaderFacts) (name : List ℕ) (place start : ℕ) (distinct : AllPairs (λ one other. one ≢ other) old.journal.settings.names)
    (named : slice_get old.journal.settings.names place ≡ Some name) (stood : slice_get old.journal.contents.positions place ≡ Some start) where
  steps : (now new : ReaderFacts) (position : ℕ) (found : Option Placed) → IsAt old now place position → HasTaken now new name found
      → Steps old new place position found
  steps now new position found at has = record {
    found_is = has.found_is ∙ ap (λ (p : ℕ). next_in Forwards now.journal.contents p) same_position
        ∙ ap (λ (c : Contents). next_in Forwards c position) at.contents;
    at = record {
      settings = has.settings ∙ at.settings;
      contents = has.contents ∙ ap (λ (k : ℕ). with_taken now.journal.contents k found) same_place
          ∙ ap (λ (c : Contents). with_taken c place found) at.contents ∙ moved found;
    };
  }
    where
      same_place : has.place ≡ place
      same_place = one_place old.journal.settings.names name has.place place distinct (three_ways has.place place)
          (subst (λ (settings : Settings). slice_get settings.names has.place ≡ Some name) at.settings has.named) named

      same_position : has.position ≡ position
      same_position = same_some has.position position (sym has.stood
          ∙ ap (λ (k : ℕ). slice_get now.journal.contents.positions k) same_place
          ∙ ap (λ (c : Contents). slice_get c.positions place) at.contents
          ∙ slice_get-set_same old.journal.contents.positions place start position stood)

      moved : (o : Option Placed) → with_taken (with_position old.journal.contents place position) place o
          ≡ with_position old.journal.contents place (cursor_behind Forwards o position)
      moved None = refl
      moved (Some f) = ap (λ (ps : List ℕ). record old.journal.contents { positions = ps })
          (set_twice old.journal.contents.positions place position (f.0 + 1))

  -- one take, and the takes after it
  one_turn : (more : ℕ) (middle new : ReaderFacts) (position : ℕ) (found : Option Placed) (messages rest : List Placed)
      → Rises old.journal.contents.lists → AreFew old.journal.contents.lists → Steps old middle place position found
      → (rest ≡ next_messages more (cursor_behind Forwards found position) old.journal.contents)
      × IsAt old new place (position_after (cursor_behind Forwards found position) rest)
      → messages ≡ begun_with found rest
      → (messages ≡ next_messages (suc more) position old.journal.contents) × IsAt old new place (position_after position messages)
  one_turn more middle new position None messages rest rises few step later is =
      let first : next_messages (suc more) position old.journal.contents ≡ [] =
      next_taken old.journal (suc more) position None rises few (λ none. absurd (omega (arith, none))) step.found_is in
      let empty : rest ≡ [] = later.0
      ∙ ap (limited (Some more)) (none_asked false old.journal.contents position rises few step.found_is) ∙ none_of more in (
        is ∙ sym first,
        subst (λ (ms : List Placed). IsAt old new place (position_after position ms)) (empty ∙ sym is) later.1,
      )
  one_turn more middle new position (Some f) messages rest rises few step later is =
      let same : suc more - 1 ≡ more = omega arith in
      let first : next_messages (suc more) position old.journal.contents ≡ f ∷ next_messages more (f.0 + 1) old.journal.contents =
      next_taken old.journal (suc more) position (Some f) rises few (λ none. absurd (omega (arith, none))) step.found_is
      ∙ ap (λ (count : ℕ). f ∷ next_messages count (f.0 + 1) old.journal.contents) same in (
        is ∙ ap (λ (ms : List Placed). f ∷ ms) later.0 ∙ sym first,
        subst (λ (ms : List Placed). IsAt old new place (position_after position ms)) (sym is) later.1,
      )

  -- so many takes, one after another
  turns : (most : ℕ) (now new : ReaderFacts) (position : ℕ) (messages : List Placed) → Rises old.journal.contents.lists
      → AreFew old.journal.contents.lists → IsAt old now place position → TakeInTurn most now new name messages
      → (messages ≡ next_messages most position old.journal.contents) × IsAt old new place (position_after position messages)
  turns zero now new position messages rises few at (same, none) = (
    none,
    subst (λ (ms : List Placed). IsAt old new place (position_after position ms)) (sym none)
        (subst (λ (reader : ReaderFacts). IsAt old reader place position) (sym same) at),
  )
  turns (suc more) now new position messages rises few at (middle, found, has, (rest, turn, is)) =
      let step = steps now middle position found at has in
      one_turn more middle new position found messages rest rises few step
      (turns more middle new (cursor_behind Forwards found position) rest rises few step.at turn) is

-- some of the messages have come: these are their lines, and the name is after them; the others are left
pub record HasCome (old now : ReaderFacts) (name : List ℕ) (most left : ℕ) (lines : List ℕ) : Type 0 where
  pub place : ℕ
  pub named : slice_get old.journal.settings.names place ≡ Some name
  pub start : ℕ
  pub stood : slice_get old.journal.contents.positions place ≡ Some start
  pub position : ℕ
  pub at : IsAt old now place position
  pub lines_are : lines ++ flat_map message_line (next_messages left position old.journal.contents)
      ≡ flat_map message_line (next_messages most start old.journal.contents)
  pub after : position_after position (next_messages left position old.journal.contents)
      ≡ position_after start (next_messages most start old.journal.contents)

-- a name that is declared has a position
pub position_of : (settings : Settings) (contents : Contents) (place : ℕ) (name : List ℕ) → length contents.positions ≡ length settings.names
    → slice_get settings.names place ≡ Some name → (position : ℕ) × (slice_get contents.positions place ≡ Some position)
position_of settings contents place name paired named =
    let below = slice_get_within settings.names place name named in
    (_, slice_get-get_or contents.positions place 0 (omega (arith, below, paired)))

-- none has come yet
pub none_came : (old : ReaderFacts) (name : List ℕ) (most : ℕ) (lines : List ℕ) → AreLawfulContents old.journal.settings old.journal.contents
    → Declares old.journal.settings name → lines ≡ [] → HasCome old old name most most lines
none_came old name most lines lawful declared none =
    let stands = position_of old.journal.settings old.journal.contents declared.0 name lawful.declared declared.1 in
    record {
      place = declared.0;
      named = declared.1;
      start = stands.0;
      stood = stands.1;
      position = stands.0;
      at = at_start old declared.0 stands.0 stands.1;
      lines_are = ap (λ (ls : List ℕ). ls ++ flat_map message_line (next_messages most stands.0 old.journal.contents)) none;
      after = refl;
    }

module _ (old now new : ReaderFacts) (name : List ℕ) (most left : ℕ) (lines : List ℕ)
    (distinct : AllPairs (λ one other. one ≢ other) old.journal.settings.names) (rises : Rises old.journal.contents.lists)
    (few : AreFew old.journal.contents.lists) (came : HasCome old now name most left lines) where
  -- one more has come
  pub one_came : (less : ℕ) (more : List ℕ) (f : Placed) → less + 1 ≡ left → HasTaken now new name (Some f)
      → more ≡ lines ++ message_line f → HasCome old new name most less more
  one_came less more f fewer has add =
      let step = steps old name came.place came.start distinct came.named came.stood now new came.position (Some f) came.at has in
      let contents = old.journal.contents in
      let same : left - 1 ≡ less = omega (arith, fewer) in
      let first : next_messages left came.position contents ≡ f ∷ next_messages less (f.0 + 1) contents =
      next_taken old.journal left came.position (Some f) rises few (λ none. absurd (omega (arith, none, fewer))) step.found_is
      ∙ ap (λ (count : ℕ). f ∷ next_messages count (f.0 + 1) contents) same in
      record {
        place = came.place;
        named = came.named;
        start = came.start;
        stood = came.stood;
        position = f.0 + 1;
        at = step.at;
        lines_are = one_line_more message_line f _ _ lines more _ first came.lines_are add;
        after = sym (ap (position_after came.position) first) ∙ came.after;
      }

  -- no more is left
  pub all_came : next_messages left came.position old.journal.contents ≡ [] → IsAt old new came.place came.position
      → (messages : List Placed) × HasTakenAll old new name most messages × (lines ≡ flat_map message_line messages)
  all_came none at = (
    next_messages most came.start old.journal.contents,
    record {
      place = came.place;
      named = came.named;
      position = came.start;
      stood = came.stood;
      messages_are = refl;
      settings = at.settings;
      contents = at.contents ∙ ap (with_position old.journal.contents came.place)
          (sym (ap (position_after came.position) none) ∙ came.after);
    },
    no_line_left message_line _ lines _ none came.lines_are,
  )

  -- no more may be taken
  pub all_used : left ≡ 0 → new ≡ now
      → (messages : List Placed) × HasTakenAll old new name most messages × (lines ≡ flat_map message_line messages)
  all_used used same = all_came (none_left left came.position old.journal.contents used)
      (subst (λ (reader : ReaderFacts). IsAt old reader came.place came.position) (sym same) came.at)

  -- no more is there
  pub all_found : ¬ (left ≡ 0) → HasTaken now new name None
      → (messages : List Placed) × HasTakenAll old new name most messages × (lines ≡ flat_map message_line messages)
  all_found some has =
      let step = steps old name came.place came.start distinct came.named came.stood now new came.position None came.at has in
      all_came (next_taken old.journal left came.position None rises few some step.found_is) step.at

module _ (old now new : ReaderFacts) (name : List ℕ) (most left : ℕ) (lines : List ℕ)
    (distinct : AllPairs (λ one other. one ≢ other) old.journal.settings.names) (rises : Rises old.journal.contents.lists)
    (few : AreFew old.journal.contents.lists) (came : HasCome old now name most left lines) where
  -- none came
  pub all_done : (found : Option Placed) → (left ≡ 0 → (found ≡ None) × (new ≡ now)) → (left ≢ 0 → HasTaken now new name found)
      → found ≡ None → (messages : List Placed) × HasTakenAll old new name most messages × (lines ≡ flat_map message_line messages)
  all_done found used one none = by left refl
    where
      by : (n : ℕ) → left ≡ n → (messages : List Placed) × HasTakenAll old new name most messages × (lines ≡ flat_map message_line messages)
      by zero is = all_used old now new name most left lines distinct rises few came is (used is).1
      by (suc n) is =
          let some : ¬ (left ≡ 0) = λ zero_is. absurd (omega (arith, is, zero_is)) in
          all_found old now new name most left lines distinct rises few came some (subst (HasTaken now new name) none (one some))

-- so many takes, one after another, take and leave what one take of so many does
pub as_many_takes : (most : ℕ) (old new : ReaderFacts) (name : List ℕ) (messages : List Placed)
    → AllPairs (λ one other. one ≢ other) old.journal.settings.names → Rises old.journal.contents.lists → AreFew old.journal.contents.lists
    → length old.journal.contents.positions ≡ length old.journal.settings.names → Declares old.journal.settings name
    → TakeInTurn most old new name messages → HasTakenAll old new name most messages
as_many_takes most old new name messages distinct rises few paired declared turn =
    let stands = position_of old.journal.settings old.journal.contents declared.0 name paired declared.1 in
    let all = turns old name declared.0 stands.0 distinct declared.1 stands.1 most old new stands.0 messages rises few
    (at_start old declared.0 stands.0 stands.1) turn in
    record {
      place = declared.0;
      named = declared.1;
      position = stands.0;
      stood = stands.1;
      messages_are = all.0;
      settings = all.1.settings;
      contents = all.1.contents;
    }
