-- The cycles of a snapshot are those of a state that the queue was in.
use Rattle.std.proofs.Common.{◌≡◌, ◌≤◌, List, String, string_bytes, [], ◌∷◌, ◌++◌, Bool, true, false, ap, arith, refl, sym, ◌∙◌, subst, ℕ, length, replicate, cond}
use Rattle.std.proofs.lemmas.List.{length-append, length-map, length-replicate}
use Rattle.std.proofs.lemmas.List.Elements.{All-from_recursion, All-replicate}
use Rattle.std.specs.List.{AllByRecursion}
use Rattle.std.specs.Prelude.{filter}
use Rattle.std.specs.Str.{bytes_eq}
use Rattle.cq_chain.proofs.HeldLemmas.{held_are_next}
use Rattle.cq_endpoint.specs.Endpoints.{EndpointFacts}
use Rattle.cq_image.specs.Image.{AreNext}
use Rattle.cq_model.specs.Callers.{calls}
use Rattle.cq_model.specs.Histories.{Allows, IsLegal, state_of}
use Rattle.cq_model.specs.Settings.{IsLawfulSettings, Settings, texts}
use Rattle.cq_model.specs.States.{AreLawfulContents, IsHeld, IsSound, end_of, lists}
use Rattle.cq_model.specs.declared.contents.Contents.{Contents}
use Rattle.cq_model.specs.declared.contents.CycleList.{CycleList}
use Rattle.cq_model.specs.declared.history.Answer.TheVariants.{Lists}
use Rattle.cq_model.specs.declared.history.Entry.{Entry}
use Rattle.cq_model.specs.declared.history.Event.TheVariants.{Snapshot}
use Rattle.cq_model.specs.declared.history.State.{State}
use Rattle.cq_model.proofs.Legal.{IsLegal-beginning, IsLegal-rest}
use Rattle.cq_model.proofs.Sound.{history_sound}
use Rattle.cq_saved.specs.Saved.{HaveImages, saved_facts}
use Rattle.cq_saved.specs.Snapshots.{IsSnapshot, contents_at_start}
use Rattle.cq_shown.specs.declared.plan.Plan.{Plan}
use Rattle.cq_shown.specs.Plans.{opening_of, settings_in}
use Rattle.cq_tail.specs.Tailers.{Answered, TailerFacts}
use Rattle.cq_words.specs.Values.{QueueFacts}

-- an entry of a history, with what came before and after it
record Within (h : List Entry) (e : Entry) : Type 0 where
  before : List Entry
  behind : List Entry
  whole : h ≡ before ++ e ∷ behind

-- one entry more in front
later : (x e : Entry) (h : List Entry) → Within h e → Within (x ∷ h) e
later x e h w = record { before = x ∷ w.before; behind = w.behind; whole = ap (λ (l : List Entry). x ∷ l) w.whole }

-- the last entry that passes a test is within the history
last_one : (p : Entry → Bool) (x e : Entry) (h ys : List Entry) (b : Bool)
    → ((zs : List Entry) → filter p h ≡ zs ++ e ∷ [] → Within h e)
    → cond b (x ∷ filter p h) (filter p h) ≡ ys ++ e ∷ [] → Within (x ∷ h) e
last_one p x e h ys false rest is = later x e h (rest ys is)
last_one p x e h [] true rest is =
    let same : x ≡ e = cc in
    record { before = []; behind = h; whole = ap (λ (k : Entry). k ∷ h) same }
last_one p x e h (y ∷ ys) true rest is =
    let less : filter p h ≡ ys ++ e ∷ [] = cc in
    later x e h (rest ys less)

last_within : (p : Entry → Bool) (e : Entry) (h ys : List Entry) → filter p h ≡ ys ++ e ∷ [] → Within h e
last_within p e [] [] is = absurd (cc)
last_within p e [] (y ∷ ys) is = absurd (cc)
last_within p e (x ∷ h) ys is = last_one p x e h ys (p x) (λ zs less. last_within p e h zs less) is

-- the state of which a snapshot gave the cycles
pub record GivenOf (queue : QueueFacts) (ls : List CycleList) : Type 0 where
  pub state : State
  pub sound : IsSound (settings_in queue.plan) state
  pub lawful : IsLawfulSettings (settings_in queue.plan)
  pub lists_are : ls ≡ lists state

pub given_of : (queue : QueueFacts) (old new : TailerFacts) (ls : List CycleList)
    → Answered queue old new Snapshot (Lists ls) old.cursor → GivenOf queue ls
given_of queue old new ls answered =
    let v = old.caller.view in
    let w = new.caller.view in
    let x = answered.goes_on.extends in
    let s = answered.goes_on.caller.sound in
    let g : Settings = settings_in queue.plan in
    let o : State = opening_of queue.plan in
    let e : Entry = record { by = v.name; event = Snapshot; answer = Lists ls } in
    let all : calls w.name w.seen ≡ v.mine ++ e ∷ [] = x.own ∙ x.mine in
    let at : Within w.seen e = last_within (λ (k : Entry). bytes_eq k.by w.name) e w.seen v.mine all in
    let legal : IsLegal g o (at.before ++ e ∷ at.behind)
    = subst (IsLegal g o) at.whole
    (subst (λ (p : Plan). IsLegal (settings_in p) (opening_of p) w.seen) answered.goes_on.of.plan s.legal) in
    let lawful : IsLawfulSettings g = subst (λ (p : Plan). IsLawfulSettings (settings_in p)) answered.goes_on.of.plan s.lawful in
    let opening : IsSound g o = subst (λ (p : Plan). IsSound (settings_in p) (opening_of p)) answered.goes_on.of.plan s.opening in
    record {
      state = state_of o at.before;
      sound = history_sound g o at.before lawful.layout opening (IsLegal-beginning g o at.before (e ∷ at.behind) legal);
      lawful = lawful;
      lists_are = (IsLegal-rest g o at.before (e ∷ at.behind) legal).0;
    }

-- each cycle that a queue holds fits
each_fits : (settings : Settings) → IsLawfulSettings settings → (ls : List CycleList) → AllByRecursion (IsHeld settings) ls
    → AllByRecursion (λ (l : CycleList). AreNext settings.layout [] l.messages) ls
each_fits settings lawful [] held = tt
each_fits settings lawful (l ∷ ls) held = (
  held_are_next settings.layout l.messages lawful.layout (held.0.lawful, held.0.room, held.0.entries),
  each_fits settings lawful ls held.1,
)

pub given_images : (queue : QueueFacts) (ls : List CycleList) → GivenOf queue ls → HaveImages (settings_in queue.plan).layout ls
given_images queue ls given =
    let g : Settings = settings_in queue.plan in
    subst (HaveImages g.layout) (sym given.lists_are)
    (All-from_recursion (λ (l : CycleList). AreNext g.layout [] l.messages) (lists given.state)
    (each_fits g given.lawful (lists given.state) given.sound.held))

-- a queue can be opened with the cycles of a state, with each name at 0 and the floor 0
state_opens : (g : Settings) (s : State) → IsSound g s → AreLawfulContents g (contents_at_start g (lists s))
state_opens g s sound = record {
  some = omega (arith, length-append s.past (s.current ∷ []));
  places = sound.places;
  rising = sound.rising;
  held = sound.held;
  positions = All-replicate (λ p. p ≤ end_of (lists s)) (length g.names) 0 (omega arith);
  declared = length-replicate (length g.names) 0;
  floor = omega arith;
}

pub given_opens : (queue : QueueFacts) (ls : List CycleList) → GivenOf queue ls
    → AreLawfulContents (settings_in queue.plan) (contents_at_start (settings_in queue.plan) ls)
given_opens queue ls given =
    let g : Settings = settings_in queue.plan in
    subst (λ (l : List CycleList). AreLawfulContents g (contents_at_start g l)) (sym given.lists_are)
    (state_opens g given.state given.sound)

-- these cycles and positions, and the floor 0
abbrev with_positions : List CycleList → List ℕ → Contents
with_positions ls places = record { lists = ls; positions = places; floor = 0 }

-- what a queue is that was copied
pub is_snapshot : (old new : EndpointFacts) (settings : Settings) (ls : List CycleList) (places : List ℕ)
    → Answered old.queue old.tailer new.tailer Snapshot (Lists ls) old.tailer.cursor
    → settings ≡ settings_in old.queue.plan → places ≡ replicate (length settings.names) 0
    → IsSnapshot old new (saved_facts settings (record { lists = ls; positions = places; floor = 0 }) true)
is_snapshot old new settings ls places taken same zeros =
    let opens : AreLawfulContents settings (contents_at_start settings ls)
    = subst (λ (s : Settings). AreLawfulContents s (contents_at_start s ls)) (sym same)
    (given_opens old.queue ls (given_of old.queue old.tailer new.tailer ls taken)) in
    record {
      lists = ls;
      taken = taken;
      settings = same;
      contents = ap (with_positions ls) zeros;
      is_open = refl;
      lawful = subst (λ (ps : List ℕ). AreLawfulContents settings (record { lists = ls; positions = ps; floor = 0 }))
          (sym zeros) opens;
    }

-- a 0 for each name
pub zeros_for : {A : Type 0} → (xs : List (String A)) (names : List (List ℕ)) (places : List ℕ) → texts xs ≡ names
    → places ≡ replicate (length xs) 0 → places ≡ replicate (length names) 0
zeros_for xs names places same is =
    is ∙ ap (λ (n : ℕ). replicate n 0) (sym (length-map xs string_bytes) ∙ ap length same)
