use Rattle.std.proofs.Common.{◌<◌, ℕ, ap, arith, refl, subst, ◌∙◌}
use Rattle.std.proofs.lemmas.Option.{slice_get_within}
use Rattle.cq_model.specs.States.{end_of}
use Rattle.cq_names.proofs.deciding.movement.Goals as goal

pub returns-then-end-position-clause-decides : goal.returns-then-end-position-clause-decides
returns-then-end-position-clause-decides c =
    let end_is = c.end_of-end.ensures ∙ ap end_of c.as_slice.ensures in (
      (c.in-Some.place, c.in-Some.ensures),
      record {
        position = c.in_ok-position.position;
        meant = c.in_ok-position.ensures.found;
        past = subst (λ (n : ℕ). n < c.in_ok-position.position) end_is c.if-end-position.true;
        end_is = c.of_value.ensures ∙ end_is;
      },
    )

pub plan_to_move-requires-clause-there : goal.plan_to_move-requires-clause-there
plan_to_move-requires-clause-there c = slice_get_within c.args.queue.now.config.names c.in-Some.place c.args.name.now c.in-Some.ensures

pub returns-clause-decides : goal.returns-clause-decides
returns-clause-decides c =
    let end_is = c.end_of-end.ensures ∙ ap end_of c.as_slice.ensures in
    let reached = c.if-end-position.false in (
      _,
      record {
        at = c.in-Some.place;
        named = c.in-Some.ensures;
        position = c.in_ok-position.position;
        place = record { meant = c.in_ok-position.ensures.found; reached = omega (arith, end_is, reached) };
        edit_is = refl;
      },
      c.in_ok-plan_to_move.ensures,
    )
