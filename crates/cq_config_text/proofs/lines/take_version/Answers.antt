use Rattle.std.proofs.Common.{◌∷◌, arith, refl, sym}
use Rattle.cq_config_text.specs.ConfigText.{version_form}
use Rattle.cq_config_text.proofs.FaultLemmas.{fault_at_end, fault_behind, fault_here}
use Rattle.cq_config_text.proofs.lines.take_version.Goals as goal

pub returns-in_default-clause-fault : goal.returns-in_default-clause-fault
returns-in_default-clause-fault c =
    (refl, λ forms. fault_at_end c.args.text.now c.in_default.ensures.none c.args.number (version_form ∷ forms) (omega arith))

pub returns-in_default-version_in-clause-fault : goal.returns-in_default-version_in-clause-fault
returns-in_default-version_in-clause-fault c = (
  refl,
  λ forms. fault_here c.args.text.now c.in-Some.line.now c.in-Some.rest.now c.in-Some.ensures.parts c.args.number
      (version_form ∷ forms) (sym c.in_default-version_in.ensures.test),
)

pub returns-clause-next : goal.returns-clause-next
returns-clause-next c = λ forms.
    fault_behind c.args.text.now c.in-Some.line.now c.in-Some.rest.now c.in-Some.ensures.parts c.args.number
    (version_form ∷ forms) (sym c.in-Some-version_in.ensures.test)
