-- One more change is recorded.
use Rattle.std.proofs.Common.{◌≡◌, ◌⊎◌, inl, inr, ⊎_elim, ℕ, zero, suc, ◌+◌, ◌<◌, ◌≤◌, List, [], ◌∷◌, ◌++◌, Vec, drop, get_or, length, take, if◌then◌else◌, refl, sym, ◌∙◌, ap, subst, arith, length-append, length-drop}
use Rattle.std.specs.Prelude.{nat_le, Result, Ok, Err, OnOk, OnErr}
use Rattle.std.proofs.lemmas.Bool.Decides.{nat_tests}
use Rattle.std.proofs.lemmas.List.{get_or-drop, take-append-le, take_all}
use Rattle.std.specs.declared.alloc.Global.{Global}
use Rattle.cq_log.specs.Device as device
use Rattle.cq_log_tests.specs.Changes.{Adds, IsAdded, IsCut, IsSync, IsWrite, Leaves, LeftSince, MayLeave, after, changed, outcomes, replay}
use Rattle.cq_log_tests.specs.declared.torn_file.Change.{Change}
use Rattle.cq_log_tests.specs.declared.torn_file.Change.TheVariants.{Cut, Sync, Write}
use Rattle.cq_log_tests.specs.Stays.{stays}
use Rattle.cq_log.specs.Torn.{cut_none, torn_none}

taken : (before : List ℕ → Type 0) (changes : List Change) (change : Change) (c : List ℕ) → outcomes before (changes ++ change ∷ []) c → after (outcomes before changes) change c
taken before [] (Write at bytes) c left = left
taken before [] (Cut len) c left = left
taken before [] (Sync file) c left = left
taken before (first ∷ changes) change c left = taken (after before first) changes change c left

put : (before : List ℕ → Type 0) (changes : List Change) (change : Change) (c : List ℕ) → after (outcomes before changes) change c → outcomes before (changes ++ change ∷ []) c
put before [] (Write at bytes) c left = left
put before [] (Cut len) c left = left
put before [] (Sync file) c left = left
put before (first ∷ changes) change c left = put (after before first) changes change c left

-- what a crash may leave once a change was recorded
pub one_more : (old new : List Change) (change : Change) (c : List ℕ) → new ≡ old ++ change ∷ [] → MayLeave new c → after (MayLeave old) change c
one_more old new change c is left = taken (λ d. d ≡ []) old change c (subst (λ (l : List Change). MayLeave l c) is left)

pub one_put : (old new : List Change) (change : Change) (c : List ℕ) → new ≡ old ++ change ∷ [] → after (MayLeave old) change c → MayLeave new c
one_put old new change c is left = subst (λ (l : List Change). MayLeave l c) (sym is) (put (λ d. d ≡ []) old change c left)

up_to : (n m : ℕ) → n ≤ m + 1 → (n ≤ m) ⊎ (n ≡ m + 1)
up_to zero m le = inl (omega arith)
up_to (suc n) zero le = inr (omega arith)
up_to (suc n) (suc m) le = ⊎_elim (λ below. inl (omega (arith, below))) (λ is. inr (omega (arith, is))) (up_to n m (omega arith))

elapses_same : (changes : List Change) → device.Elapses (length changes) (length changes) (LeftSince changes) (LeftSince changes) (MayLeave changes)
elapses_same changes = record { later = omega arith; nothing_else = λ t c le left. inl left; keeps = λ t c le left. left }

elapses_more : (changes : List Change) (change : Change)
    → device.Elapses (length changes) (length (changes ++ change ∷ [])) (LeftSince changes) (LeftSince (changes ++ change ∷ [])) (MayLeave (changes ++ change ∷ []))
elapses_more changes change =
    let more : List Change = changes ++ change ∷ [] in
    let long : length more ≡ length changes + 1 = omega (arith, length-append changes (change ∷ [])) in
    record {
      later = omega (arith, long);
      nothing_else = λ t c le left. ⊎_elim
          (λ below. inl (left.0, left.1, below, subst (λ (l : List Change). MayLeave l c) (take-append-le left.0 changes (change ∷ []) below) left.3))
          (λ is. inr (subst (λ (l : List Change). MayLeave l c) (take_all left.0 more (omega (arith, is, long))) left.3))
          (up_to left.0 (length changes) (omega (arith, left.2, long)));
      keeps = λ t c le left.
          (left.0, left.1, omega (arith, left.2, long), subst (λ (l : List Change). MayLeave l c) (sym (take-append-le left.0 changes (change ∷ []) left.2)) left.3);
    }

-- time goes on in a call that records a change or none
pub elapses : (P : Change → Type 0) (old new : List Change) → Adds P old new → device.Elapses (length old) (length new) (LeftSince old) (LeftSince new) (MayLeave new)
elapses P old new (inl same) =
    subst (λ (l : List Change). device.Elapses (length old) (length l) (LeftSince old) (LeftSince l) (MayLeave l)) (sym same) (elapses_same old)
elapses P old new (inr added) =
    subst (λ (l : List Change). device.Elapses (length old) (length l) (LeftSince old) (LeftSince l) (MayLeave l)) (sym added.2) (elapses_more old added.0)

pub follows_write : (at n : ℕ) (old new : List Change) → Adds (IsWrite at n) old new → device.Follows (device.Torn at n) (MayLeave old) (MayLeave new)
follows_write at n old new (inl same) c left = (c, subst (λ (l : List Change). MayLeave l c) same left, torn_none at n c)
follows_write at n old new (inr added) c left =
    let write = added.1 in
    let from : after (MayLeave old) (Write at write.0) c = subst (λ (x : Change). after (MayLeave old) x c) write.2 (one_more old new added.0 c added.2 left) in
    (from.0, from.1, subst (λ (m : ℕ). device.Torn at m from.0 c) write.1 from.2)

pub allows_write : (at n : ℕ) (old new : List Change) → IsAdded (IsWrite at n) old new → device.Allows (device.Torn at n) (MayLeave old) (MayLeave new)
allows_write at n old new added d c is torn =
    let write = added.1 in
    let more : after (MayLeave old) (Write at write.0) c = (d, is, subst (λ (m : ℕ). device.Torn at m d c) (sym write.1) torn) in
    one_put old new added.0 c added.2 (subst (λ (x : Change). after (MayLeave old) x c) (sym write.2) more)

-- a write may be lost
pub loses_write : (at n : ℕ) (old new : List Change) → Adds (IsWrite at n) old new → device.IsPartOf (MayLeave old) (MayLeave new)
loses_write at n old new (inl same) c left = subst (λ (l : List Change). MayLeave l c) (sym same) left
loses_write at n old new (inr added) c left = allows_write at n old new added c c left (torn_none at n c)

pub follows_cut : (len : ℕ) (old new : List Change) → Adds (IsCut len) old new → device.Follows (device.Cut len) (MayLeave old) (MayLeave new)
follows_cut len old new (inl same) c left = (c, subst (λ (l : List Change). MayLeave l c) same left, cut_none len c)
follows_cut len old new (inr added) c left = subst (λ (x : Change). after (MayLeave old) x c) added.1 (one_more old new added.0 c added.2 left)

pub allows_cut : (len : ℕ) (old new : List Change) → IsAdded (IsCut len) old new → device.Allows (device.Cut len) (MayLeave old) (MayLeave new)
allows_cut len old new added d c is short =
    let more : after (MayLeave old) (Cut len) c = (d, is, short) in
    one_put old new added.0 c added.2 (subst (λ (x : Change). after (MayLeave old) x c) (sym added.1) more)

-- a cut may be lost
pub loses_cut : (len : ℕ) (old new : List Change) → Adds (IsCut len) old new → device.IsPartOf (MayLeave old) (MayLeave new)
loses_cut len old new (inl same) c left = subst (λ (l : List Change). MayLeave l c) (sym same) left
loses_cut len old new (inr added) c left = allows_cut len old new added c c left (cut_none len c)

pub only_synced : (file : List ℕ) (old new : List Change) → IsAdded (IsSync file) old new → device.Only file (MayLeave new)
only_synced file old new added c left =
    let sync = added.1 in
    subst (λ (x : Change). after (MayLeave old) x c) sync.2 (one_more old new added.0 c added.2 left) ∙ sync.1

replay_more : (file : List ℕ) (changes : List Change) (change : Change) → replay file (changes ++ change ∷ []) ≡ changed (replay file changes) change
replay_more file [] change = refl
replay_more file (first ∷ changes) change = replay_more (changed file first) changes change

changed_within : (file bytes : List ℕ) (at : ℕ) → at ≤ length file
    → (if nat_le at (length file) then take at file ++ bytes ++ drop (at + length bytes) file else file) ≡ take at file ++ bytes ++ drop (at + length bytes) file
changed_within file bytes at le = grind (arith, nat_tests)

-- the file after one more write, cut or sync
pub replay_write : (old new : List Change) (file next : List ℕ) (at : ℕ) (v : Vec ℕ Global) → file ≡ replay [] old → at ≤ length file
    → new ≡ old ++ Write at v ∷ [] → device.Overwrites file at v.items next → next ≡ replay [] new
replay_write old new file next at v is le more over =
    over
    ∙ sym (changed_within file v.items at le)
    ∙ ap (λ (f : List ℕ). changed f (Write at v)) is
    ∙ sym (replay_more [] old (Write at v))
    ∙ ap (replay []) (sym more)

pub replay_cut : (old new : List Change) (file : List ℕ) (len : ℕ) → file ≡ replay [] old → new ≡ old ++ Cut len ∷ [] → take len file ≡ replay [] new
replay_cut old new file len is more = ap (take len) is ∙ sym (replay_more [] old (Cut len)) ∙ ap (replay []) (sym more)

pub replay_synced : (old new : List Change) (file : List ℕ) (v : Vec ℕ Global) → file ≡ replay [] old → v.items ≡ file → (new ≡ old) ⊎ (new ≡ old ++ Sync v ∷ []) → file ≡ replay [] new
replay_synced old new file v is same (inl none) = is ∙ ap (replay []) (sym none)
replay_synced old new file v is same (inr more) = sym same ∙ sym (replay_more [] old (Sync v)) ∙ ap (replay []) (sym more)

-- a call that answered did one of two things
pub either : {T E : Type 0} (result : Result T E) (A B : Type 0) → OnOk result A → OnErr result B → B ⊎ A
either (Ok x) A B one other = inr one
either (Err e) A B one other = inl other

pub synced_back : (file : List ℕ) (old new : List Change) → file ≡ replay [] old → Adds (IsSync file) old new → device.IsPartOf (MayLeave new) (MayLeave old)
synced_back file old new is (inl same) c left = subst (λ (l : List Change). MayLeave l c) same left
synced_back file old new is (inr added) c left = subst (MayLeave old) (sym (only_synced file old new added c left)) (stays old file is)

leaves_after : (before : List ℕ → Type 0) (change : Change) (d c : List ℕ) → before d → Leaves change d c → after before change c
leaves_after before (Write at bytes) d c is leaves = (d, is, leaves)
leaves_after before (Cut len) d c is leaves = (d, is, leaves)
leaves_after before (Sync file) d c is leaves = leaves

take_next : (changes : List Change) (i : ℕ) (change : Change) → i < length changes → change ≡ get_or changes i change → take (i + 1) changes ≡ take i changes ++ change ∷ []
take_next [] i change lt is = absurd (omega arith)
take_next (first ∷ changes) zero change lt is = ap (λ (x : Change). x ∷ []) (sym is)
take_next (first ∷ changes) (suc i) change lt is =
    let same : suc i + 1 ≡ suc (i + 1) = omega arith in
    ap (λ (n : ℕ). take n (first ∷ changes)) same ∙ ap (λ (l : List Change). first ∷ l) (take_next changes i change (omega arith) is)

-- a crash came to one change more
pub left_next : (changes : List Change) (i : ℕ) (change : Change) (d c : List ℕ) → i < length changes → change ≡ get_or changes i change
    → MayLeave (take i changes) d → Leaves change d c → MayLeave (take (i + 1) changes) c
left_next changes i change d c lt is so_far leaves =
    one_put (take i changes) (take (i + 1) changes) change c (take_next changes i change lt is) (leaves_after (MayLeave (take i changes)) change d c so_far leaves)

-- the same among the changes from a place on
pub left_on : (all items : List Change) (start i : ℕ) (change : Change) (d c : List ℕ) → items ≡ drop start all → i < length items → change ≡ get_or items i change
    → MayLeave (take (start + i) all) d → Leaves change d c → MayLeave (take (start + (i + 1)) all) c
left_on all items start i change d c from lt is so_far leaves =
    let here : change ≡ get_or all (start + i) change = is ∙ ap (λ (l : List Change). get_or l i change) from ∙ get_or-drop start all i change in
    let within : start + i < length all = omega (arith, lt, ap length from, length-drop start all) in
    let next : start + i + 1 ≡ start + (i + 1) = omega arith in
    subst (λ (n : ℕ). MayLeave (take n all) c) next (left_next all (start + i) change d c within here so_far leaves)

-- after the last one
pub left_last : (all items : List Change) (start i : ℕ) (c : List ℕ) → items ≡ drop start all → length items ≤ i → MayLeave (take (start + i) all) c → MayLeave all c
left_last all items start i c from end left =
    subst (λ (l : List Change). MayLeave l c) (take_all (start + i) all (omega (arith, end, ap length from, length-drop start all))) left

-- a sync leaves its bytes
pub left_synced : (changes : List Change) (i end : ℕ) (sync : Change) (v : Vec ℕ Global) → end ≡ i + 1 → end ≤ length changes → sync ≡ get_or changes i sync → sync ≡ Sync v
    → MayLeave (take end changes) v.items
left_synced changes i end sync v is within here synced =
    let next : take end changes ≡ take i changes ++ sync ∷ [] = ap (λ (n : ℕ). take n changes) is ∙ take_next changes i sync (omega (arith, is, within)) here in
    one_put (take i changes) (take end changes) (Sync v) v.items (next ∙ ap (λ (x : Change). take i changes ++ x ∷ []) synced) refl

-- as many bytes, and as many changes before
pub added_here : (at n m : ℕ) (old mid new : List Change) → m ≡ n → mid ≡ old → IsAdded (IsWrite at m) mid new → IsAdded (IsWrite at n) old new
added_here at n m old mid new is same added =
    subst (λ (l : List Change). IsAdded (IsWrite at n) l new) same (subst (λ (k : ℕ). IsAdded (IsWrite at k) mid new) is added)

pub adds_here : (at n m : ℕ) (old mid new : List Change) → m ≡ n → mid ≡ old → Adds (IsWrite at m) mid new → Adds (IsWrite at n) old new
adds_here at n m old mid new is same adds =
    subst (λ (l : List Change). Adds (IsWrite at n) l new) same (subst (λ (k : ℕ). Adds (IsWrite at k) mid new) is adds)
