-- How a writer leaves a queue.
use Rattle.std.proofs.Common.{◌≡◌, ◌⊎◌, Err, MatchResult, Ok, Result, ℕ, ◌+◌, inl, inr, refl, subst, sym}
use Rattle.cq_endpoint.specs.Endpoints.{EndpointFacts}
use Rattle.cq_endpoint.specs.declared.fault.AppendFault.{AppendFault}
use Rattle.cq_endpoint.specs.declared.fault.AppendFault.TheVariants as unappended
use Rattle.cq_layout.specs.declared.refusal.Refusal.{Refusal}
use Rattle.cq_row.specs.Ways.{GoesOn}
use Rattle.cq_row.specs.declared.fault.ShelfFault.{ShelfFault}
use Rattle.cq_row.specs.declared.fault.ShelfFault.TheVariants.{Busy}
use Rattle.cq_row.specs.declared.place.Place.{Place}
use Rattle.cq_row.specs.declared.place.Step.{Step}
use Rattle.cq_row.specs.declared.place.Step.TheVariants as step
use Rattle.cq_shelf.specs.Ways.{Does, IsTired, Passes, on}
use Rattle.cq_shelf.specs.Writes.{Append, HasPlaceFor, IsOnFault, IsToLeave, Leaves, LeavesEnd, LooksForEnd, Shuts, Stays, WriterMoves, Writes, WritesNot, not_on}

module _ (old : Place) (e : EndpointFacts) (looks : LooksForEnd old.endpoint e) where
  abbrev left : Place
  left = record old { endpoint = e }

  -- it looked for the end, and went on
  pub leaves_on : (s : Step) (new : Place) → (s ≡ step.Next) ⊎ ((n : ℕ) × (s ≡ step.Skipped n)) → GoesOn left s new
      → LeavesEnd old new
  leaves_on s new (inl is) goes = record {
    left = left;
    looked = (refl, looks);
    onto = record { over = 0; goes = inl (subst (λ (x : Step). GoesOn left x new) is goes) };
  }
  leaves_on s new (inr (n, is)) goes = record {
    left = left;
    looked = (refl, looks);
    onto = record { over = n; goes = inr (subst (λ (x : Step). GoesOn left x new) is goes) };
  }

-- what going on from a closed queue says, after an append that found it closed
pub after_closed : (len : ℕ) (old new : Place) (r : Result Unit ShelfFault) → HasPlaceFor len old
    → MatchResult r (λ _. LeavesEnd old new) (λ e. Does LooksForEnd old new × IsOnFault e)
    → MatchResult r (λ _. Leaves len unappended.Closed old new) (Stays len unappended.Closed old new)
after_closed len old new (Ok u) has says = record { is_to = has; left = says.left; leaves = says.looked; onto = says.onto }
after_closed len old new (Err e) has says = not_on has says.0 says.1

-- and from one that was closed after a refusal
pub after_refused : (len : ℕ) (refusal : Refusal) (old shut new : Place) (r : Result Unit ShelfFault)
    → IsToLeave len old (unappended.Refused refusal) → Shuts old shut
    → MatchResult r (λ _. LeavesEnd shut new) (λ e. Does LooksForEnd shut new × IsOnFault e)
    → MatchResult r (λ _. Leaves len (unappended.Refused refusal) old new) (Stays len (unappended.Refused refusal) old new)
after_refused len refusal old shut new (Ok u) is_to shuts says =
    record { is_to = is_to; left = says.left; leaves = (shut, shuts, says.looked); onto = says.onto }
after_refused len refusal old shut new (Err e) is_to shuts says = not_on is_to (shut, shuts, says.0) says.1

module _ {A : Type 0} (len : ℕ) (append : Append A) (old p : Place) (e : EndpointFacts)
    (over : ℕ) (passed : Passes (WriterMoves len append) old over p) where
  -- the endpoint appended
  pub writes : (a : A) → append (Ok a) p.endpoint e → Writes len append old (record p { endpoint = e }) a
  writes a says = record { last = p; passed = (over, passed); appended = (refl, says) }

  module _ (f : AppendFault) (says : append (Err f) p.endpoint e) (new : Place) where
    -- it was refused, and the writer went on
    pub moves : Leaves len f (record p { endpoint = e }) new → Passes (WriterMoves len append) old (over + 1) new
    moves goes = on over p new passed (record {
      refused = f;
      after = record p { endpoint = e };
      was_refused = (refl, says);
      leaves = goes;
    })

    -- or stayed there
    pub writes_not : (one two : ShelfFault) → one ≡ two → Stays len f (record p { endpoint = e }) new two
        → WritesNot len append old new one
    writes_not one two is stayed = record {
      over = over;
      last = p;
      passed = passed;
      fails = inl (record {
        refused = f;
        after = record p { endpoint = e };
        was_refused = (refl, says);
        stays_there = subst (Stays len f (record p { endpoint = e }) new) (sym is) stayed;
      });
    }

-- it went over as many queues as one call does
pub tires : {A : Type 0} (len : ℕ) (append : Append A) (old p : Place) (over : ℕ) → Passes (WriterMoves len append) old over p
    → IsTired over → WritesNot len append old p Busy
tires len append old p over passed is = record { over = over; last = p; passed = passed; fails = inr (is, refl, refl) }
