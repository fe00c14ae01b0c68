use Rattle.std.proofs.Common.{◌≡◌, ◌∙◌, ℕ, List, [], Global, ap, subst}
use Rattle.std.specs.Prelude.{MatchOption, None, Option, String}
use Rattle.cq_image.specs.Image.{AreNext}
use Rattle.cq_repair.specs.Kept.{bad_name, salvaged}
use Rattle.cq_repair.specs.Plans.{IsKept}
use Rattle.cq_repair.specs.declared.planning.Kept.{Kept}
use Rattle.cq_folder.specs.Folder.{is_named}
use Rattle.cq_repair.proofs.PlanLemmas.{taken_is}
use Rattle.cq_repair.proofs.planning.plan_for.Goals as goal

pub returns : goal.returns
returns c =
    let found = c.args.found in
    let kept = subst (λ (kept : Option Kept). MatchOption kept ((salvaged found).fault ≡ None) (IsKept found)) c.in-Some.is c.in_ok-kept.ensures in
    record {
      faulty = kept.faulty;
      fit = subst (AreNext found.saved.config.layout []) kept.messages kept.fit;
      ended = c.in-Some.kept.ended;
      ended_is = kept.ended;
      old = ap (λ (name : List ℕ). (name, found.bytes.items)) c.in_ok-name.ensures;
      taken = taken_is found.names.items c.as_str.result.now (bad_name c.args.file.now) c.has_name-is_taken.result
          (c.has_name-is_taken.ensures ∙ ap (λ (names : List (String Global)). is_named names c.as_str.result.now) c.as_slice.ensures.value)
          (c.as_str.ensures.value ∙ c.in_ok-name.ensures);
      changes = c.in_ok-changes.ensures;
      text = c.in_ok-text.ensures;
    }
