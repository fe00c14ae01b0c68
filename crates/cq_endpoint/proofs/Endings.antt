-- Nothing is appended to a closed queue, and its end is final.
use Rattle.std.proofs.Common.{true, ◌≡◌, ℕ, ◌+◌, ◌*◌, ◌^◌, List, [], ◌∷◌, ◌++◌, length, Option, Some, None, refl, ap, sym, subst, ◌∙◌, arith, append_assoc, length-append}
use Rattle.cq_append.specs.Calls.{begun_at}
use Rattle.cq_cycle.specs.Index.{cycle_in}
use Rattle.cq_endpoint.specs.Endings.{HasFinished}
use Rattle.cq_endpoint.specs.Reads.{NextSays}
use Rattle.cq_endpoint.specs.Works.{HasAppended}
use Rattle.cq_endpoint.specs.declared.answers.Next.TheVariants.{Finished}
use Rattle.cq_layout.specs.Layout.{IsLawfulLayout}
use Rattle.cq_model.specs.Callers.{calls}
use Rattle.cq_model.specs.Histories.{IsLegal, after, state_of}
use Rattle.cq_model.specs.Seals.{ListsStay}
use Rattle.cq_model.specs.Settings.{Settings}
use Rattle.cq_model.specs.States.{IsSound, NoneFrom, end, message_at}
use Rattle.cq_model.specs.declared.history.Answer.TheVariants.{NotYet, Started, Written}
use Rattle.cq_model.specs.declared.history.Entry.{Entry}
use Rattle.cq_model.specs.declared.history.Event.TheVariants.{Complete, Forward}
use Rattle.cq_model.specs.declared.history.State.{State}
use Rattle.cq_model.proofs.CallLemmas.{calls-append}
use Rattle.cq_model.proofs.FloorLemmas.{readable_open}
use Rattle.cq_model.proofs.Grows.{history_grows, history_rises}
use Rattle.cq_model.proofs.Legal.{IsLegal-beginning, IsLegal-rest, state_of-append}
use Rattle.cq_model.proofs.Sealing.{none_stays}
use Rattle.cq_model.proofs.SeenLemmas.{none_from, stands_below_end}
use Rattle.cq_model.proofs.Sound.{change_sound, history_sound}
use Rattle.cq_model.proofs.StayLemmas.{history_keeps}
use Rattle.cq_model.proofs.TestLemmas.{three_ways}
use Rattle.cq_model.proofs.LastCalls.{IsIn, cancel, last_call}
use Rattle.cq_shown.specs.Plans.{opening_of, settings_in}
use Rattle.cq_shown.specs.declared.plan.Plan.{Plan}
use Rattle.cq_tail.specs.Tailers.{ReadsNext, TailerFacts}
use Rattle.cq_model.specs.declared.direction.Direction.{Direction}
use Rattle.cq_model.specs.declared.direction.Direction.TheVariants.{Backwards, Forwards}
use Rattle.cq_tail.specs.declared.answers.Found.TheVariants as found
use Rattle.cq_words.specs.Steps.{Extends, IsSound as IsSoundView}
use Rattle.cq_words.specs.Values.{CallerFacts, IsCaller, QueueFacts}
use Rattle.cq_words.specs.Views.{call, state_seen}
use Rattle.cq_words.specs.declared.view.View.{View}

-- of what a caller saw as it went on, the last of the calls that it added is a part
added_last : (v w : View) (es : List Entry) (e : Entry) → IsSoundView v → (x : Extends v w (es ++ e ∷ []))
    → IsIn x.seen.0 e
added_last v w es e ok x =
    let whole : calls v.name v.seen ++ calls v.name x.seen.0 ≡ v.mine ++ (es ++ e ∷ [])
    = sym (calls-append v.name v.seen x.seen.0) ∙ (ap (calls v.name) (sym x.seen.1)
    ∙ (ap (λ (k : List ℕ). calls k w.seen) (sym x.name) ∙ (x.own ∙ x.mine))) in
    let same : v.mine ++ calls v.name x.seen.0 ≡ v.mine ++ (es ++ e ∷ [])
    = ap (λ (l : List Entry). l ++ calls v.name x.seen.0) (sym ok.own) ∙ whole in
    last_call v.name x.seen.0 es e (cancel v.mine (calls v.name x.seen.0) (es ++ e ∷ []) same)

-- what was seen as a caller went on is legal from what it had seen, and leads to what it has seen
pub record Between (v w : View) (h : List Entry) : Type 0 where
  pub lawful : IsLawfulLayout (settings_in v.plan).layout
  pub sound : IsSound (settings_in v.plan) (state_seen v)
  pub legal : IsLegal (settings_in v.plan) (state_seen v) h
  pub state : state_seen w ≡ state_of (state_seen v) h

between : (v w : View) (es : List Entry) → IsSoundView v → (x : Extends v w es) → Between v w x.seen.0
between v w es ok x =
    let whole : IsLegal (settings_in v.plan) (opening_of v.plan) (v.seen ++ x.seen.0)
    = subst (IsLegal (settings_in v.plan) (opening_of v.plan)) x.seen.1
    (subst (λ (p : Plan). IsLegal (settings_in p) (opening_of p) w.seen) x.plan x.legal) in
    record {
      lawful = ok.lawful.layout;
      sound = history_sound (settings_in v.plan) (opening_of v.plan) v.seen ok.lawful.layout ok.opening ok.legal;
      legal = IsLegal-rest (settings_in v.plan) (opening_of v.plan) v.seen x.seen.0 whole;
      state = ap (λ (p : Plan). state_of (opening_of p) w.seen) x.plan
          ∙ (ap (state_of (opening_of v.plan)) x.seen.1 ∙ state_of-append (opening_of v.plan) v.seen x.seen.0);
    }

end_same : (s t : State) → ListsStay s t → end t ≡ end s
end_same s t stays = ap (λ l. l.cycle * 2 ^ 32 + length l.messages) stays.current

-- where the lists stay, no message is completed
none_completed : (g : Settings) (s : State) (h : List Entry) (by m : List ℕ) (i : ℕ) → IsLawfulLayout g.layout → IsSound g s
    → IsLegal g s h → ListsStay s (state_of s h) → IsIn h (record { by = by; event = Complete m; answer = Written i }) → ⊥
none_completed g s h by m i lawful sound legal stays at =
    let e : Entry = record { by = by; event = Complete m; answer = Written i } in
    let whole : IsLegal g s (at.before ++ e ∷ at.later) = subst (IsLegal g s) at.is legal in
    let mid : State = state_of s at.before in
    let first = IsLegal-beginning g s at.before (e ∷ at.later) whole in
    let here = IsLegal-rest g s at.before (e ∷ at.later) whole in
    let fine = history_sound g s at.before lawful sound first in
    let up = history_grows g s at.before lawful sound first in
    let next = change_sound g mid by (Complete m) (Written i) lawful fine here.0 in
    let rest = history_grows g (after mid e) at.later lawful next here.1 in
    let all : state_of s h ≡ state_of (after mid e) at.later
    = ap (state_of s) at.is ∙ state_of-append s at.before (e ∷ at.later) in
    let same : end (state_of s h) ≡ end s = end_same s (state_of s h) stays in
    let last : end (state_of s h) ≡ end (state_of (after mid e) at.later) = ap end all in
    let one : length (mid.current.messages ++ m ∷ []) ≡ length mid.current.messages + 1
    = length-append mid.current.messages (m ∷ []) in
    let more : end (after mid e) ≡ end mid + 1 = omega (arith, one) in
    omega (arith, up, rest, same, last, more)

pub none_appended : (queue : QueueFacts) (v w : CallerFacts) (moment : ℕ) (m : List ℕ) (i : ℕ) → IsCaller v
    → v.view.sealed ≡ true → HasAppended queue v moment m w i → ⊥
none_appended queue v w moment m i ok sealed h =
    let x = h.says.goes_on.extends in
    let es : List Entry = h.says.rolls ++ begun_at queue v moment (length m) Started ∷ [] in
    let split = append_assoc h.says.rolls (begun_at queue v moment (length m) Started ∷ [])
    (call v.view (Complete m) (Written i) ∷ []) in
    let y : Extends v.view w.view (es ++ call v.view (Complete m) (Written i) ∷ [])
    = subst (Extends v.view w.view) (sym split) x in
    let b = between v.view w.view (es ++ call v.view (Complete m) (Written i) ∷ []) ok.sound y in
    let stays : ListsStay (state_seen v.view) (state_of (state_seen v.view) y.seen.0)
    = subst (ListsStay (state_seen v.view)) b.state (y.seal sealed).1 in
    none_completed (settings_in v.view.plan) (state_seen v.view) y.seen.0 v.view.name m i b.lawful b.sound b.legal stays
    (added_last v.view w.view es (call v.view (Complete m) (Written i)) ok.sound y)

none_or : (o : Option (List ℕ)) → ((m : List ℕ) → o ≡ Some m → ⊥) → o ≡ None
none_or None never = refl
none_or (Some m) never = absurd (never m refl)

-- where the lists stay, a read that found nothing says so of all that is seen
none_later : (g : Settings) (s : State) (h : List Entry) (by : List ℕ) (p : ℕ) → IsLawfulLayout g.layout → IsSound g s
    → IsLegal g s h → ListsStay s (state_of s h) → IsIn h (record { by = by; event = Forward p; answer = NotYet })
    → NoneFrom (state_of s h) p
none_later g s h by p lawful sound legal stays at =
    let e : Entry = record { by = by; event = Forward p; answer = NotYet } in
    let whole : IsLegal g s (at.before ++ e ∷ at.later) = subst (IsLegal g s) at.is legal in
    let mid : State = state_of s at.before in
    let first = IsLegal-beginning g s at.before (e ∷ at.later) whole in
    let here = IsLegal-rest g s at.before (e ∷ at.later) whole in
    let fine = history_sound g s at.before lawful sound first in
    let up = history_grows g s at.before lawful sound first in
    let rest = history_grows g mid at.later lawful fine here.1 in
    let rises = history_rises g mid at.later here.1 in
    let all : state_of s h ≡ state_of mid at.later = ap (state_of s) at.is ∙ state_of-append s at.before (e ∷ at.later) in
    let last : end (state_of s h) ≡ end (state_of mid at.later) = ap end all in
    let same : end (state_of s h) ≡ end s = end_same s (state_of s h) stays in
    let over = history_sound g mid at.later lawful fine here.1 in
    let t : State = state_of mid at.later in
    let none : NoneFrom t p = λ k from. none_from t k
    (λ looks. none_or (message_at t k) (λ m is.
    let low = stands_below_end g t k m over is in
    let there : message_at t k ≡ message_at mid k = history_keeps g mid at.later k lawful fine here.1
    (omega (arith, low, last, same, up, rest)) in
    let found : message_at mid k ≡ None = sym (readable_open mid k (omega (arith, rises, looks))) ∙ here.0 k from in
    absurd (let clash : None ≡ Some m = sym found ∙ (sym there ∙ is) in cc)))
    (three_ways (cycle_in k) t.floor) in
    subst (λ (z : State). NoneFrom z p) (sym all) none

-- a tailer that knows of the seal and was told that nothing comes forwards has come to the end
finished_after : (queue : QueueFacts) (old new : TailerFacts) → IsCaller old.caller → old.caller.view.sealed ≡ true
    → ReadsNext queue old new found.NotYet → HasFinished new
finished_after queue old new ok sealed read = go old.direction refl
  where
    go : (way : Direction) → old.direction ≡ way → HasFinished new
    go Backwards is = absurd (subst (λ (d : Direction). ReadsNext queue (record old { direction = d }) new found.NotYet) is read).0
    go Forwards is =
        let r = (subst (λ (d : Direction). ReadsNext queue (record old { direction = d }) new found.NotYet) is read).1 in
        let x = r.goes_on.extends in
        let e : Entry = call old.caller.view (Forward old.cursor) NotYet in
        let b = between old.caller.view new.caller.view (e ∷ []) ok.sound x in
        let after_seal = x.seal sealed in
        let stays : ListsStay (state_seen old.caller.view) (state_of (state_seen old.caller.view) x.seen.0)
        = subst (ListsStay (state_seen old.caller.view)) b.state after_seal.1 in
        record {
          knows = after_seal.0;
          none = subst (λ (s : State). NoneFrom s new.cursor) (sym b.state)
              (subst (NoneFrom (state_of (state_seen old.caller.view) x.seen.0)) (sym r.cursor)
              (none_later (settings_in old.caller.view.plan) (state_seen old.caller.view) x.seen.0 old.caller.view.name
              old.cursor b.lawful b.sound b.legal stays (added_last old.caller.view new.caller.view [] e ok.sound x)));
        }

pub finished : (queue : QueueFacts) (old new : TailerFacts) → NextSays queue old new Finished → HasFinished new
finished queue old new h =
    let r = h.after in
    finished_after queue r.looked new r.looks.looks.goes_on.caller r.looks.looks.sealed r.last

pub stays_finished : (v w : View) (es : List Entry) (p : ℕ) → v.sealed ≡ true → Extends v w es → NoneFrom (state_seen v) p
    → NoneFrom (state_seen w) p
stays_finished v w es p sealed x none = none_stays (state_seen v) (state_seen w) p (x.seal sealed).1 none
