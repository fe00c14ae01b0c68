use Rattle.std.proofs.Common.{inl, inr, subst, sym}
use Rattle.cq_endpoint.specs.Endpoints.{EndpointFacts, IsFirst}
use Rattle.cq_handle.specs.declared.held.Held.{Held}
use Rattle.cq_handle.specs.declared.held.Held.TheVariants as held
use Rattle.cq_saved.specs.Saved.{CanOpen, SavedFacts}
use Rattle.cq_shown.specs.Plans.{reopened}
use Rattle.linnetshelf.specs.Makes.{HandsOut, Opens}
use Rattle.linnetshelf.specs.declared.status.Status.{Status}
use Rattle.linnetshelf.proofs.saving.open.Goals as goal

handed : (saved : SavedFacts) (e : EndpointFacts) (old new : Held) (how : Status) → ¬ ¬ CanOpen saved
    → IsFirst saved.settings (reopened saved.contents) e → HandsOut old (held.Endpoint e) new how → Opens saved old new how
handed saved e old new how can first (inl done) =
    subst (Opens saved old new) (sym done.0) (record { can = can; endpoint = e; first = first; new_is = done.1 })
handed saved e old new how can first (inr none) = subst (Opens saved old new) (sym none.0) none.1

pub returns-in-Ok : goal.returns-in-Ok
returns-in-Ok c = handed c.args.saved.now c.in-Ok.endpoint c.args.out.now.held c.hand_out.new.out.held c.hand_out.result
    (λ no. let e = c.in-Ok.ensures.only no in cc) c.in-Ok.ensures.made c.hand_out.ensures
