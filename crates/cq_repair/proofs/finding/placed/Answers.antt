use Rattle.std.proofs.Common.{◌≡◌, ◌∙◌, Bool, false, true, ap, sym}
use Rattle.cq_layout.specs.Version.{is_current}
use Rattle.cq_layout.specs.Layout.{CycleLayout}
use Rattle.cq_repair.proofs.finding.placed.Goals as goal

clash : (b : Bool) → b ≡ false → b ≡ true → ⊥
clash b one other = cc

pub returns-then-not-is_image-clause-fault : goal.returns-then-not-is_image-clause-fault
returns-then-not-is_image-clause-fault c =
    (c.in_ok-name.ensures.ok, λ both. clash _ c.if-not-is_image.true (c.is_image.ensures.1 both))

pub returns-in_default-clause-fault : goal.returns-in_default-clause-fault
returns-in_default-clause-fault c =
    let both = c.is_image.ensures.0 c.if-not-is_image.false in (
      c.in_ok-name.ensures.ok,
      both.0,
      both.1,
      λ cycle is.
          let found = c.cycle_of_file.ensures.only cycle is in
          let none = c.in_default.is in
          cc,
    )

pub returns-clause-fault : goal.returns-clause-fault
returns-clause-fault c =
    let both = c.is_image.ensures.0 c.if-not-is_image.false in (
      both.0,
      both.1,
      (c.in-Some.cycle, c.in-Some.ensures.found),
      sym (c.is_current.ensures ∙ ap is_current (c.store.ensures.value ∙ ap (λ (layout : CycleLayout). layout.store) c.layout.ensures.value))
          ∙ c.if-is_current.false,
    )

pub returns-then-is_current-clause-placed : goal.returns-then-is_current-clause-placed
returns-then-is_current-clause-placed c =
    let both = c.is_image.ensures.0 c.if-not-is_image.false in
    record {
      listed = both.1;
      ending = both.0;
      named = c.in-Some.ensures.found;
      version =
          sym (c.is_current.ensures ∙ ap is_current (c.store.ensures.value ∙ ap (λ (layout : CycleLayout). layout.store) c.layout.ensures.value))
          ∙ c.if-is_current.true;
    }
