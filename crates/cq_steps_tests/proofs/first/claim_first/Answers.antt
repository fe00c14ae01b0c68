use Rattle.std.proofs.Common.{ap, subst, ◌∙◌}
use Rattle.cq_layout.specs.Layout.{CycleLayout}
use Rattle.cq_words.specs.Claims.{HasPlace}
use Rattle.cq_words.specs.Words.{mark_of}
use Rattle.cq_model.specs.Settings.{Settings}
use Rattle.cq_steps_tests.proofs.FirstLemmas.{come_first}
use Rattle.cq_steps_tests.proofs.first.claim_first.Goals as goal

pub claim-requires-clause-come : goal.claim-requires-clause-come
claim-requires-clause-come c = come_first c.args.caller.now.view

pub claim-requires-clause-fits : goal.claim-requires-clause-fits
claim-requires-clause-fits c =
    subst (λ (m : CycleLayout). HasPlace m (mark_of 0 c.new-walker.result) c.args.room)
    (c.layout.ensures.value ∙ ap (λ (s : Settings). s.layout) c.config-2.ensures)
    (c.has_place.ensures.fits c.if-not-has_place.false)
