use Rattle.std.proofs.Common.{◌∙◌, rules, subst, sym}
use Rattle.std.proofs.lemmas.Bool.{false≢true}
use Rattle.cq_real_folder.specs.Record.{HasParts}
use Rattle.cq_real_folder.proofs.record.is_part_name.Goals as goal

pub returns-in_default : goal.returns-in_default
returns-in_default c =
    (λ is. absurd (false≢true is), λ part. absurd (c.in_default.ensures part.file part.process part.number part.spelled))

pub returns-then-not-has_parts : goal.returns-then-not-has_parts
returns-then-not-has_parts c = (
  λ is. absurd (false≢true is),
  λ part. let found = c.in-Some.ensures part.file part.process part.number part.spelled in
      absurd (false≢true (sym c.if-not-has_parts.true ∙ c.has_parts.ensures.1 (subst HasParts (sym found.0) part.whose))),
)

pub returns : goal.returns
returns c = search rules
