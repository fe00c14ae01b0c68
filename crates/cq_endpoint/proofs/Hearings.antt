-- What is heard through notes.
use Rattle.std.proofs.Common.{◌≡◌, ℕ, ◌≤◌, List, [], ap, append-nil, arith, subst, sym, ◌∙◌}
use Rattle.cq_endpoint.specs.Endpoints.{EndpointFacts, split_once}
use Rattle.cq_endpoint.specs.Meetings.{EndpointHears, EndpointsMet, Exchanges, Hears, MakesNone, Told, WorkHears, WorkMeets, WorkTold}
use Rattle.cq_endpoint.specs.declared.work.Work.{Work}
use Rattle.cq_endpoint.specs.declared.work.Work.TheVariants as work
use Rattle.cq_model.specs.declared.history.Entry.{Entry}
use Rattle.cq_shown.specs.Plans.{StartsWith}
use Rattle.cq_tail.specs.Tailers.{TailerFacts}
use Rattle.cq_words.specs.Values.{CallerFacts, Met}
use Rattle.cq_words.proofs.Moves.{starts_so}
use Rattle.cq_words.proofs.Seals.{keeps_seal}

-- what a caller is told that meets a note
pub told_of : (n m v w : CallerFacts) → Met v n w m → Told n m v w
told_of n m v w met =
    let first = met.ends.0 in
    let second = met.ends.1 in
    record {
      none = record {
        name = met.first.name;
        children = met.first.children;
        mine = met.first.mine;
        claim = met.first.claim;
        side = met.first.side;
        seal = met.first.seal;
      };
      seen = met.first.seen;
      told = met.other;
      tells = met.back;
      ends = (omega (arith, first), omega (arith, first), omega (arith, first, second));
    }

-- what the note had seen before, and has seen since
pub told_wider : (n m o p v w : CallerFacts) → StartsWith n.view.seen o.view.seen → o.seen_end ≤ n.seen_end
    → StartsWith p.view.seen m.view.seen → m.seen_end ≤ p.seen_end → Told n m v w → Told o p v w
told_wider n m o p v w front low back high t =
    let ends = t.ends in
    let one = ends.1 in
    let two = ends.2 in
    record {
      none = t.none;
      seen = t.seen;
      told = starts_so w.view.seen n.view.seen o.view.seen t.told front;
      tells = starts_so p.view.seen m.view.seen w.view.seen back t.tells;
      ends = (ends.0, omega (arith, one, low), omega (arith, two, high));
    }

pub none_on : (u v w : CallerFacts) → MakesNone u v → MakesNone v w → MakesNone u w
none_on u v w a b = record {
  name = b.name ∙ a.name;
  children = b.children ∙ a.children;
  mine = b.mine ∙ a.mine;
  claim = b.claim ∙ a.claim;
  side = record {
    filled = λ x has. b.side.filled x (a.side.filled x has);
    reached = λ r has. b.side.reached r (a.side.reached r has);
  };
  seal = keeps_seal u.view v.view w.view a.seal b.seal;
}

-- a caller that meets a note before it has come round, and once it has
module _ (n m o p : CallerFacts) (heard : List Entry) (end : ℕ) (comes : StartsWith heard m.view.seen)
    (low : m.seen_end ≤ end) (goes : StartsWith o.view.seen heard) (high : end ≤ o.seen_end) where
  pub hears : (u v w : CallerFacts) → Told n m u v → Told o p v w → Hears heard end u w
  hears u v w a b =
      let first = a.ends.0 in
      let brings = a.ends.2 in
      let takes = b.ends.1 in
      record {
        none = none_on u v w a.none b.none;
        brought = starts_so heard m.view.seen u.view.seen comes
            (starts_so m.view.seen v.view.seen u.view.seen a.tells a.seen);
        seen = starts_so w.view.seen o.view.seen heard b.told goes;
        ends = (omega (arith, first, brings, low), omega (arith, takes, high));
      }

  pub work_hears : (u v w : Work) → WorkTold n m u v → WorkTold o p v w → WorkHears heard end u w
  work_hears (work.Idle u) (work.Idle v) (work.Idle w) a b = hears u v w a b
  work_hears (work.Idle u) (work.Idle v) (work.Writing w) a b = absurd b
  work_hears (work.Idle u) (work.Writing v) w a b = absurd a
  work_hears (work.Writing u) (work.Idle v) w a b = absurd a
  work_hears (work.Writing u) (work.Writing v) (work.Writing w) a b = b ∙ a
  work_hears (work.Writing u) (work.Writing v) (work.Idle w) a b = absurd b

  pub endpoint_hears : (u v w : EndpointFacts) → Exchanges n m u v → Exchanges o p v w → EndpointHears heard end u w
  endpoint_hears u v w a b = record {
    queue = b.queue ∙ a.queue;
    writer = work_hears u.work v.work w.work a.writer b.writer;
    stays = b.stays ∙ ap (λ (t : TailerFacts). record t { caller = w.tailer.caller }) a.stays;
    reader = hears u.tailer.caller v.tailer.caller w.tailer.caller a.reader b.reader;
  }

-- what a note has seen that met a caller
note_on : (n m v w : CallerFacts) → Met v n w m → StartsWith m.view.seen n.view.seen × (n.seen_end ≤ m.seen_end)
note_on n m v w met =
    let greatest = met.ends.1 in
    (starts_so m.view.seen w.view.seen n.view.seen met.back met.other, omega (arith, greatest))

-- or an appender
pub work_note : (n m : CallerFacts) (v w : Work) → WorkMeets v n w m
    → StartsWith m.view.seen n.view.seen × (n.seen_end ≤ m.seen_end) × WorkTold n m v w
work_note n m (work.Idle v) (work.Idle w) met =
    let on = note_on n m v w met in (on.0, on.1, told_of n m v w met)
work_note n m (work.Writing v) (work.Writing w) met =
    let same = ap (λ (c : CallerFacts). c.seen_end) met.1 in (
      ([], ap (λ (c : CallerFacts). c.view.seen) met.1 ∙ sym (append-nil n.view.seen)),
      omega (arith, same),
      met.0,
    )
work_note n m (work.Idle v) (work.Writing w) met = absurd met
work_note n m (work.Writing v) (work.Idle w) met = absurd met

work_wider : (n m p : CallerFacts) (v w : Work) → StartsWith p.view.seen m.view.seen → m.seen_end ≤ p.seen_end
    → WorkTold n m v w → WorkTold n p v w
work_wider n m p (work.Idle v) (work.Idle w) back high t =
    told_wider n m n p v w ([], sym (append-nil n.view.seen)) (omega arith) back high t
work_wider n m p (work.Writing v) (work.Writing w) back high t = t
work_wider n m p (work.Idle v) (work.Writing w) back high t = absurd t
work_wider n m p (work.Writing v) (work.Idle w) back high t = absurd t

-- an endpoint whose appender and tailer met a note, one after the other
pub exchanges : (n k m : CallerFacts) (old new : EndpointFacts) → new.queue ≡ old.queue → new.parent ≡ old.parent
    → WorkMeets old.work n new.work k → new.tailer ≡ record old.tailer { caller = new.tailer.caller }
    → Met old.tailer.caller k new.tailer.caller m → Exchanges n m old new
exchanges n k m old new queue parent first stays second =
    let one = work_note n k old.work new.work first in
    let two = note_on k m old.tailer.caller new.tailer.caller second in
    let low = one.1 in
    let high = two.1 in
    record {
      queue = queue;
      parent = parent;
      writer = work_wider n k m old.work new.work two.0 two.1 one.2;
      stays = stays;
      reader = told_wider k m n m old.tailer.caller new.tailer.caller one.0 one.1 ([], sym (append-nil m.view.seen))
          (omega arith) (told_of k m old.tailer.caller new.tailer.caller second);
      note = starts_so m.view.seen k.view.seen n.view.seen two.0 one.0;
      note_end = omega (arith, low, high);
    }

-- two endpoints that met one note in turn, twice
pub endpoints_met : (n k m l o : CallerFacts) (a b c d e f : EndpointFacts) → Exchanges n k a c → Exchanges k m b d
    → Exchanges m l c e → Exchanges l o d f → (first : EndpointFacts) → a ≡ record first { parent = a.parent }
    → a.parent ≡ split_once first.parent → EndpointsMet first b e f
endpoints_met n k m l o a b c d e f one two three four first same split =
    let low = two.note_end in
    let high = three.note_end in
    let nothing : StartsWith m.view.seen m.view.seen = ([], sym (append-nil m.view.seen)) in
    let hears_a : EndpointHears m.view.seen m.seen_end a e
    = endpoint_hears n k m l m.view.seen m.seen_end two.note low nothing (omega arith) a c e one three in
    record {
      heard = m.view.seen;
      end = m.seen_end;
      first = record {
        queue = hears_a.queue ∙ ap (λ (x : EndpointFacts). x.queue) same;
        writer = subst (λ (x : Work). WorkHears m.view.seen m.seen_end x e.work)
            (ap (λ (x : EndpointFacts). x.work) same) hears_a.writer;
        stays = hears_a.stays ∙ ap (λ (x : EndpointFacts). record x.tailer { caller = e.tailer.caller }) same;
        reader = subst (λ (x : CallerFacts). Hears m.view.seen m.seen_end x e.tailer.caller)
            (ap (λ (x : EndpointFacts). x.tailer.caller) same) hears_a.reader;
      };
      second = endpoint_hears k m l o m.view.seen m.seen_end nothing (omega arith) three.note high b d f two four;
      parent = three.parent ∙ (one.parent ∙ split);
      other_parent = four.parent ∙ two.parent;
    }
