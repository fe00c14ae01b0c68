use Rattle.std.proofs.Common.{◌≡◌, ◌∙◌, ◌++◌, List, ap, subst, sym, ℕ}
use Rattle.std.proofs.lemmas.Bool.{false≢true}
use Rattle.std.proofs.lemmas.List.{append_cancel_right}
use Rattle.cq_real_folder.specs.Record.{IsFileName}
use Rattle.cq_real_folder.specs.declared.record.TheConstants.{KEPT_ENDING}
use Rattle.cq_real_folder.proofs.record.is_kept_name.Goals as goal

pub returns-in-Some : goal.returns-in-Some
returns-in-Some c =
    let ending = c.in-Some.ensures.cases in
    let replaced = c.in-Some.replaced.now in
    let spelled : c.args.file.now ≡ replaced ++ KEPT_ENDING.now =
    ending.1.1 ∙ ap (λ (bytes : List ℕ). bytes ++ KEPT_ENDING.now) (sym ending.2) in (
      λ is. (replaced, spelled, c.is_file_name.ensures.0 is),
      λ kept. c.is_file_name.ensures.1 (subst IsFileName (append_cancel_right kept.0 replaced KEPT_ENDING.now (sym kept.1 ∙ spelled)) kept.2),
    )

pub returns-in-None : goal.returns-in-None
returns-in-None c = (λ is. absurd (false≢true is), λ kept. absurd (c.in-None.ensures.cases kept.0 kept.1))
