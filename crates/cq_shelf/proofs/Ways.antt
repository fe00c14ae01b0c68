-- How calls of a shelf go on, and what they come to.
use Rattle.std.proofs.Common.{◌≡◌, Err, IfSome, IsErrAnd, List, None, Ok, Option, Result, Some, ℕ, ◌+◌, inl, inr, refl, subst, sym}
use Rattle.cq_endpoint.specs.Endpoints.{EndpointFacts}
use Rattle.cq_row.specs.declared.fault.ShelfFault.{ShelfFault}
use Rattle.cq_row.specs.declared.fault.ShelfFault.TheVariants.{Busy}
use Rattle.cq_row.specs.declared.place.Place.{Place}
use Rattle.cq_shelf.specs.Ways.{Asking, Asks, Here, IsTired, Makes, Moves, Passes, Reply, Settles, Steps, Turns, before, ends, failed, here, missed, next, on, refused, said, turns, waits}

-- a place whose endpoint has changed to this
abbrev with_endpoint : Place → EndpointFacts → Place
with_endpoint p e = record p { endpoint = e }

module _ {A : Type 0} (asking : Asking A) (old : Here) (p : Place) (room full : List ℕ) (e : EndpointFacts)
    (over : ℕ) (passed : Passes (Moves asking) old over (here p room)) where
  -- the endpoint was refused
  pub is_refused : (fault : ShelfFault) → asking.fails fault p.endpoint room e full
      → Asks asking old (here (with_endpoint p e) full) (failed fault)
  is_refused fault says = record { over = over; last = here p room; passed = passed; replies = refused (refl, says) }

  module _ (found : A) (says : asking.call found p.endpoint room e full) (new : Place) where
    -- it answered so, and nothing followed
    answers : (a : A) → found ≡ a → new ≡ with_endpoint p e → Makes (asking.call a) (here p room) (here new full)
    answers a is stays = subst (λ (q : Place). Makes (asking.call a) (here p room) (here q full)) (sym stays)
        (refl, subst (λ (x : A). asking.call x p.endpoint room e full) is says)

    -- by its answer the call ends
    pub settles : (r : Reply A) → Settles asking found (with_endpoint p e) new r → Asks asking old (here new full) r
    settles (said a) (is, stays) = record { over = over; last = here p room; passed = passed; replies = answers a is stays }
    settles waits (inl is, stays) = record { over = over; last = here p room; passed = passed; replies = inl (answers asking.not_yet is stays) }
    settles waits (inr is, stays) = record { over = over; last = here p room; passed = passed; replies = inr (answers asking.finished is stays) }
    settles ends (is, stays) = record { over = over; last = here p room; passed = passed; replies = answers asking.finished is stays }
    settles (missed n) (is, goes) = record {
      over = over;
      last = here p room;
      passed = passed;
      replies = record {
        left = with_endpoint p e;
        finished = (refl, subst (λ (x : A). asking.call x p.endpoint room e full) is says);
        goes = goes;
      };
    }
    settles (failed f) (inl is, stays, why) =
        record { over = over; last = here p room; passed = passed; replies = next (answers asking.finished is stays) why }
    settles (failed f) (inr starts, stays, why) =
        record { over = over; last = here p room; passed = passed; replies = before found starts (answers found refl stays) why }

    -- or it went to another queue
    pub steps : Steps asking found (with_endpoint p e) new → Passes (Moves asking) old (over + 1) (here new full)
    steps (inl (is, goes)) = on over (here p room) (here new full) passed (inl (record {
      left = with_endpoint p e;
      finished = (refl, subst (λ (x : A). asking.call x p.endpoint room e full) is says);
      goes = goes;
    }))
    steps (inr (starts, goes)) = on over (here p room) (here new full) passed (inr (record {
      left = with_endpoint p e;
      answer = found;
      is_start = starts;
      started = (refl, says);
      goes = goes;
    }))

    -- with the error of a step
    pub settles_as : (one two : ShelfFault) → one ≡ two → Settles asking found (with_endpoint p e) new (failed two)
        → Asks asking old (here new full) (failed one)
    settles_as one two is says =
        settles (failed one) (subst (λ (f : ShelfFault). Settles asking found (with_endpoint p e) new (failed f)) (sym is) says)

    module _ {B : Type 0} (reply : Result B ShelfFault → Reply A) (IsIn : ℕ → Result B ShelfFault → Type 0) (o : Option B) where
      -- the call ends with an answer of the shelf
      pub ends_with : (b : B) → o ≡ Some b → Turns asking reply IsIn found (with_endpoint p e) new (Ok o)
          → Asks asking old (here new full) (reply (Ok b)) × IsIn new.number (Ok b)
      ends_with b is says =
          let turned : Turns asking reply IsIn found (with_endpoint p e) new (Ok (Some b))
          = subst (λ (x : Option B). Turns asking reply IsIn found (with_endpoint p e) new (Ok x)) is says
          in (settles (reply (Ok b)) turned.0, turned.1)

      -- or goes on in another queue
      pub goes_over : o ≡ None → Turns asking reply IsIn found (with_endpoint p e) new (Ok o)
          → Passes (Moves asking) old (over + 1) (here new full)
      goes_over is says =
          steps (subst (λ (x : Option B). Turns asking reply IsIn found (with_endpoint p e) new (Ok x)) is says)

-- it went over as many queues as one call does
pub tired : {A : Type 0} (asking : Asking A) (old at : Here) (over : ℕ) → Passes (Moves asking) old over at → IsTired over
    → Asks asking old at (failed Busy)
tired asking old at over passed is = record { over = over; last = at; passed = passed; replies = turns is refl refl }

-- what holds of each such error holds of a result that is one
pub by_error : {B : Type 0} (P : Result B ShelfFault → Type 0) (Q : ShelfFault → Type 0) (r : Result B ShelfFault) → IsErrAnd r Q
    → ((e : ShelfFault) → Q e → P (Err e)) → P r
by_error P Q (Ok x) is holds = absurd is
by_error P Q (Err e) is holds = holds e is

-- what holds of each value holds of the one that an option has
pub of_some : {T : Type 0} (P : T → Type 0) (o : Option T) (x : T) → o ≡ Some x → IfSome o P → P x
of_some {T} P o x is holds = subst (λ (s : Option T). IfSome s P) is holds
