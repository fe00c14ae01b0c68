use Rattle.std.proofs.Common.{Global, List, ap, ◌∙◌}
use Rattle.std.specs.Prelude.{String}
use Rattle.cq_model.specs.Settings.{texts}
use Rattle.cq_trim.specs.Trimmed.{name_lines}
use Rattle.cq_trim.proofs.planning.plan_for.Goals as goal

pub returns : goal.returns
returns c = record {
  changes = c.in_ok-changes.ensures;
  removed = c.in_ok-removed.ensures;
  text = c.in_ok-text.ensures ∙ ap (λ (names : List (String Global)). name_lines (texts names)) c.as_slice.ensures.value
      ∙ ap name_lines c.in_ok-removed.ensures;
}
