-- What endpoints of one queue have seen that met.
use Rattle.std.specs.Prelude.{◌≡◌, ℕ, ◌≤◌, List}
use Rattle.cq_endpoint.specs.Endpoints.{EndpointFacts, split_once}
use Rattle.cq_endpoint.specs.declared.work.Work.{Work}
use Rattle.cq_endpoint.specs.declared.work.Work.TheVariants as work
use Rattle.cq_model.specs.declared.history.Entry.{Entry}
use Rattle.cq_shown.specs.Plans.{StartsWith}
use Rattle.cq_words.specs.Entries.{KeepsSide}
use Rattle.cq_words.specs.Seals.{KeepsSeal}
use Rattle.cq_words.specs.Values.{CallerFacts, Met}

-- a caller made no call, keeps its claim and knows what it knew of entries, of write positions and of the seal
pub record MakesNone (v w : CallerFacts) : Type 0 where
  pub name : w.view.name ≡ v.view.name
  pub children : w.view.children ≡ v.view.children
  pub mine : w.view.mine ≡ v.view.mine
  pub claim : w.view.claim ≡ v.view.claim
  pub side : KeepsSide v.view w.view
  pub seal : KeepsSeal v.view w.view

-- a caller met a note that had seen what n had, and has seen what m has
pub record Told (n m v w : CallerFacts) : Type 0 where
  pub none : MakesNone v w
  pub seen : StartsWith w.view.seen v.view.seen
  pub told : StartsWith w.view.seen n.view.seen
  pub tells : StartsWith m.view.seen w.view.seen
  pub ends : (v.seen_end ≤ w.seen_end) × (n.seen_end ≤ w.seen_end) × (w.seen_end ≤ m.seen_end)

-- the appender did, where it has begun no message; else it did nothing
abbrev pub WorkTold : CallerFacts → CallerFacts → Work → Work → Type 0
WorkTold n m (work.Idle v) (work.Idle w) = Told n m v w
WorkTold n m (work.Writing v) (work.Writing w) = w ≡ v
WorkTold n m _ _ = ⊥

-- how the appender met a note
abbrev pub WorkMeets : Work → CallerFacts → Work → CallerFacts → Type 0
WorkMeets (work.Idle v) n (work.Idle w) m = Met v n w m
WorkMeets (work.Writing v) n (work.Writing w) m = (w ≡ v) × (m ≡ n)
WorkMeets _ n _ m = ⊥

-- the appender and the tailer of an endpoint met a note
pub record Exchanges (n m : CallerFacts) (old new : EndpointFacts) : Type 0 where
  pub queue : new.queue ≡ old.queue
  pub parent : new.parent ≡ old.parent
  pub writer : WorkTold n m old.work new.work
  pub stays : new.tailer ≡ record old.tailer { caller = new.tailer.caller }
  pub reader : Told n m old.tailer.caller new.tailer.caller
  pub note : StartsWith m.view.seen n.view.seen
  pub note_end : n.seen_end ≤ m.seen_end

-- a caller made no call and has seen one history that begins with what it had seen, and an end that is at least the one that it
-- had seen
pub record Hears (heard : List Entry) (end : ℕ) (v w : CallerFacts) : Type 0 where
  pub none : MakesNone v w
  pub brought : StartsWith heard v.view.seen
  pub seen : StartsWith w.view.seen heard
  pub ends : (v.seen_end ≤ end) × (end ≤ w.seen_end)

-- the appender has, where it has begun no message; else nothing of it changed
abbrev pub WorkHears : List Entry → ℕ → Work → Work → Type 0
WorkHears heard end (work.Idle v) (work.Idle w) = Hears heard end v w
WorkHears heard end (work.Writing v) (work.Writing w) = w ≡ v
WorkHears heard end _ _ = ⊥

-- the appender and the tailer of an endpoint have, and the tailer stays where it is
pub record EndpointHears (heard : List Entry) (end : ℕ) (old new : EndpointFacts) : Type 0 where
  pub queue : new.queue ≡ old.queue
  pub writer : WorkHears heard end old.work new.work
  pub stays : new.tailer ≡ record old.tailer { caller = new.tailer.caller }
  pub reader : Hears heard end old.tailer.caller new.tailer.caller

-- two endpoints met: all have heard one history
pub record EndpointsMet (a b c d : EndpointFacts) : Type 0 where
  pub heard : List Entry
  pub end : ℕ
  pub first : EndpointHears heard end a c
  pub second : EndpointHears heard end b d
  pub parent : c.parent ≡ split_once a.parent
  pub other_parent : d.parent ≡ b.parent
