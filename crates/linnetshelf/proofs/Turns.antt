-- Calls in turn, and one more.
use Rattle.std.proofs.Common.{◌≡◌, ◌<◌, ◌≤◌, ◌+◌, ◌-◌, ◌++◌, ◌∙◌, ◌∷◌, List, Ok, [], ap, append-nil, arith, drop, get_or, length, length-append, length-drop, refl, set, subst, sym, take, ℕ}
use Rattle.std.proofs.Math.Seq.{take-append-add}
use Rattle.std.proofs.lemmas.List.{drop-drop, drop-set-lt, drop_all, drop_at, length-take-le, take_more, take_more_set, take_rest}
use borrow.Rule.Slice.PartMut.{put_mid}
use Rattle.cq_endpoint.specs.Endpoints.{ChangesTailer, ChangesWork, EndpointFacts}
use Rattle.cq_endpoint.specs.Reads.{NextIntoSays}
use Rattle.cq_endpoint.specs.Works.{Appends}
use Rattle.cq_endpoint.specs.declared.work.Work.{Work}
use Rattle.cq_tail.specs.Tailers.{TailerFacts}
use Rattle.cq_words.specs.Values.{QueueFacts}
use Rattle.cq_endpoint.specs.declared.answers.NextInto.TheVariants.{Message}
use Rattle.linnetshelf.specs.Answers.{read}
use Rattle.linnetshelf.specs.Many.{AppendsFront, Appending, InTurn, Reading, ReadsFront, appending, reading}
use Rattle.linnetshelf.specs.declared.answer.Answer.{Answer}

-- calls in turn, and then one more
pub in_turn-append : {S X : Type 0} (call : S → X → S → Type 0) (old : S) (xs : List X) (between : S) (x : X) (new : S)
    → InTurn call old xs between → call between x new → InTurn call old (xs ++ x ∷ []) new
in_turn-append call old [] between x new row here = (new, subst (λ s. call s x new) row here, refl)
in_turn-append call old (y ∷ xs) between x new row here =
    (row.0, row.1, in_turn-append call row.0 xs between x new row.2 here)

-- what changed twice but the same part has changed but that part
pub changes_work : (old between new : EndpointFacts) → ChangesWork old between → ChangesWork between new → ChangesWork old new
changes_work old between new one two = two ∙ ap (λ (e : EndpointFacts). record e { work = new.work }) one

pub changes_tailer : (old between new : EndpointFacts) → ChangesTailer old between → ChangesTailer between new
    → ChangesTailer old new
changes_tailer old between new one two = two ∙ ap (λ (e : EndpointFacts). record e { tailer = new.tailer }) one

-- messages are appended in turn, and then one more
pub appends_more : (queue : QueueFacts) (moment : ℕ) (old : Appending) (lengths : List ℕ) (k : ℕ) (work next : Work)
    (bytes : List ℕ) (last index : ℕ) → k < length lengths
    → InTurn (AppendsFront queue moment) old (take k lengths) (appending work bytes last)
    → get_or lengths k 0 ≤ length bytes → Appends queue work moment (take (get_or lengths k 0) bytes) next (Ok index)
    → InTurn (AppendsFront queue moment) old (take (k + 1) lengths)
    (appending next (take (length bytes - get_or lengths k 0) (drop (get_or lengths k 0) bytes)) index)
appends_more queue moment old lengths k work next bytes last index below row within appends =
    let len : ℕ = get_or lengths k 0 in
    let new : Appending = appending next (take (length bytes - len) (drop len bytes)) index in
    subst (λ said. InTurn (AppendsFront queue moment) old said new) (sym (take_more lengths k 0 below))
    (in_turn-append (AppendsFront queue moment) old (take k lengths) (appending work bytes last) len new row
    (record { within = within; appends = appends; rest = take_rest bytes len }))

-- what follows the first bytes of a list, and some more
take_after : {X : Type 0} (p q : List X) (n m : ℕ) → length p ≡ n → take (n + m) (p ++ q) ≡ p ++ take m q
take_after p q n m h = subst (λ k. take (k + m) (p ++ q) ≡ p ++ take m q) h (take-append-add p q m)

drop_after : {X : Type 0} (p q : List X) (n m : ℕ) → length p ≡ n → drop (n + m) (p ++ q) ≡ drop m q
drop_after p q n m h = sym (drop-drop m n (p ++ q)) ∙ ap (λ l. drop m l) (drop_at p q n h)

-- a room that was written from a place to its end
pub written : (end : ℕ) (room full : List ℕ) → end ≤ length room
    → put_mid end (length room - end) room full ≡ take end room ++ full
written end room full within =
    ap (λ l. take end room ++ (full ++ l)) (drop_all (length room - end) (drop end room) (omega (arith, length-drop end room)))
    ∙ ap (λ l. take end room ++ l) (append-nil full)

-- what was read of it is within it
pub within_written : (end len : ℕ) (room full : List ℕ) → end ≤ length room → len ≤ length full
    → end + len ≤ length (put_mid end (length room - end) room full)
within_written end len room full within fits =
    let long = ap length (written end room full within) ∙ length-append (take end room) full in
    let short : length (take end room) ≡ end = length-take-le end room within in
    omega (arith, long, short)

-- messages are read in turn, and then one more, whose answer is put after theirs
pub reads_more : (queue : QueueFacts) (old : Reading) (answers : List Answer) (k : ℕ) (answer : Answer)
    (tailer next : TailerFacts) (room full : List ℕ) (end last index len : ℕ) → k < length answers → end ≤ length room
    → len ≤ length full → answer ≡ read index len
    → InTurn (ReadsFront queue) old (take k answers) (reading tailer (take end room) (drop end room) last)
    → NextIntoSays queue tailer next (take (length room - end) (drop end room)) full (Message index len)
    → InTurn (ReadsFront queue) old (take (k + 1) (set answers k answer))
    (reading next (take (end + len) (put_mid end (length room - end) room full))
    (drop (end + len) (put_mid end (length room - end) room full)) index)
reads_more queue old answers k answer tailer next room full end last index len below within fits is row says =
    let short : length (take end room) ≡ end = length-take-le end room within in
    let new : Reading = reading next (take (end + len) (take end room ++ full)) (drop (end + len) (take end room ++ full)) index in
    let more : InTurn (ReadsFront queue) old (take k answers ++ answer ∷ []) new =
    in_turn-append (ReadsFront queue) old (take k answers) (reading tailer (take end room) (drop end room) last)
    answer new row (record {
      len = len;
      full = full;
      reads = subst (λ left. NextIntoSays queue tailer next left full (Message index len)) (take_rest room end) says;
      within = fits;
      bytes = take_after (take end room) full end len short;
      rest = drop_after (take end room) full end len short;
      answer_is = is;
    }) in
    subst (λ said. InTurn (ReadsFront queue) old said
    (reading next (take (end + len) (put_mid end (length room - end) room full))
    (drop (end + len) (put_mid end (length room - end) room full)) index))
    (sym (take_more_set answers k answer below))
    (subst (λ whole. InTurn (ReadsFront queue) old (take k answers ++ answer ∷ [])
    (reading next (take (end + len) whole) (drop (end + len) whole) index)) (sym (written end room full within)) more)

-- the answers after one that is written are as they were
pub others_more : (before answers : List Answer) (k : ℕ) (answer : Answer) → drop k answers ≡ drop k before
    → drop (k + 1) (set answers k answer) ≡ drop (k + 1) before
others_more before answers k answer others =
    drop-set-lt (k + 1) answers k answer (omega arith)
    ∙ sym (drop-drop 1 k answers)
    ∙ ap (λ l. drop 1 l) others
    ∙ drop-drop 1 k before
