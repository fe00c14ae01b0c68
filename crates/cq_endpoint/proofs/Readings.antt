-- What reads of an endpoint come to. The calls of an endpoint have its queue from a pointer, once for each read.
use Rattle.std.proofs.Common.{◌≡◌, ◌≢◌, ℕ, List, [], IfErr, Result, Ok, Err, inl, inr, subst, sym}
use Rattle.cq_endpoint.specs.Reads.{Fails, IsTold, LooksAfter, OfMemory, OfTake, Outcome, Reader, Reads, ReadsLast, TakeRefused}
use Rattle.cq_endpoint.specs.Reads.{TakeRefusedAgain, answered, finished, not_yet, reader}
use Rattle.cq_endpoint.specs.declared.answers.Taken.{Taken}
use Rattle.cq_tail.specs.Names.{Takes}
use Rattle.cq_tail.specs.Tailers.{TailerFacts}
use Rattle.cq_tail.specs.declared.answers.Take.{Take}
use Rattle.cq_tail.specs.declared.answers.Take.TheVariants.{NotYet}
use Rattle.cq_model.specs.declared.take_fault.TakeFault.{TakeFault}
use Rattle.cq_model.specs.declared.take_fault.TakeFault.TheVariants as fault
use Rattle.cq_words.specs.Values.{QueueFacts}

module _ {A : Type 0} (reads : QueueFacts → Reader → Reader → A → Type 0) (none : A) (queue : QueueFacts) where
  -- a read found nothing
  found_none : (one : QueueFacts) (old between : Reader) (a : A) → one ≡ queue → a ≡ none → reads one old between a
      → reads queue old between none
  found_none one old between a one_is is first =
      subst (λ (x : A). reads queue old between x) is
      (subst (λ (q : QueueFacts). reads q old between a) one_is first)

  went_on : (old between new : Reader) (o : Outcome A) → reads queue old between none
      → LooksAfter queue (reads queue) none between new o → Reads queue (reads queue) none old new o
  went_on old between new (answered a) first after = inr (record { between = between; none = first; after = after })
  went_on old between new not_yet first after = record { between = between; none = first; after = after }
  went_on old between new finished first after = record { between = between; none = first; after = after }

  -- a first read found nothing yet, and then this
  pub reads_on : (one two : QueueFacts) (old between new : Reader) (a : A) (o : Outcome A) → one ≡ queue → two ≡ queue
      → a ≡ none → reads one old between a → LooksAfter two (reads two) none between new o
      → Reads queue (reads queue) none old new o
  reads_on one two old between new a o one_is two_is is first after =
      went_on old between new o (found_none one old between a one_is is first)
      (subst (λ (q : QueueFacts). LooksAfter q (reads q) none between new o) two_is after)

  -- a first read found something
  pub reads_told : (one : QueueFacts) (old new : Reader) (a : A) (o : Outcome A) → one ≡ queue → IsTold none a o
      → a ≢ none → reads one old new a → Reads queue (reads queue) none old new o
  reads_told one old new a (answered b) one_is told some first =
      inl (subst (λ (x : A). reads queue old new x) {x = a} (sym told.0)
      (subst (λ (q : QueueFacts). reads q old new a) one_is first))
  reads_told one old new a not_yet one_is told some first = absurd told
  reads_told one old new a finished one_is told some first = absurd (some told)

  -- a first read found nothing yet, and the second was refused
  pub fails_on : (fails : QueueFacts → Reader → Reader → Type 0) (one two : QueueFacts) (old between new : Reader) (a : A)
      → one ≡ queue → two ≡ queue → a ≡ none → reads one old between a
      → ReadsLast two between (λ u. fails two u new) → Fails queue (reads queue) none (fails queue) old new
  fails_on fails one two old between new a one_is two_is is first last = inr (record {
    between = between;
    none = found_none one old between a one_is is first;
    after = subst (λ (q : QueueFacts). ReadsLast q between (λ u. fails q u new)) two_is last;
  })

-- a first take found nothing yet, and the second was refused
pub take_refused : (queue one two : QueueFacts) (old between new : TailerFacts) (name : List ℕ) (a : Take)
    (r : Result Taken TakeFault) → one ≡ queue → two ≡ queue → a ≡ NotYet → Takes one old between name a
    → IfErr r (λ x. TakeRefusedAgain two between new x) → IfErr r (λ x. TakeRefused queue old new name x)
take_refused queue one two old between new name a (Ok x) one_is two_is is first last = tt
take_refused queue one two old between new name a (Err fault.NoSuchName) one_is two_is is first last = absurd last
take_refused queue one two old between new name a (Err fault.OutOfMemory) one_is two_is is first last =
    let took = found_none (λ q t u f. OfTake q name t u f) NotYet queue one (reader old []) (reader between []) a one_is is
    first in (
      (took.place, took.named),
      fails_on (λ q t u f. OfTake q name t u f) NotYet queue OfMemory one two (reader old []) (reader between [])
          (reader new []) a one_is two_is is first last,
    )
