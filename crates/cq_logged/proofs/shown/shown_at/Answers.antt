use Rattle.std.proofs.Common.{◌≡◌, ◌+◌, ◌∙◌, List, ap, arith, refl, string_bytes, subst, sym, take, ℕ}
use Rattle.std.specs.Str.{bytes_eq}
use Rattle.std.proofs.lemmas.List.{take_all}
use Rattle.cq_folder.specs.declared.storage.NewFile.{NewFile}
use Rattle.cq_logged.proofs.Seen.{IsFoundIn, found_before, found_there}
use Rattle.cq_logged.proofs.shown.shown_at.Goals as goal
use Rattle.cq_logged.proofs.shown.shown_at.Goals.{then-eq, else-eq}

pub loop-file-preserved : goal.loop-file-preserved
loop-file-preserved c =
    let shown = c.args.shown.now in
    let i = c.loop-file.file-index in
    let file = c.file-item.result in
    let name = c.args.name.now in
    let low = c.loop-file-test.true in
    let is : bytes_eq (string_bytes file.name) name ≡ c.eq.result =
    sym (ap (λ (xs : List ℕ). bytes_eq xs name) c.as_str.ensures.value) ∙ sym c.eq.ensures in
    elim c.if-eq.branch [
      | then-eq w ↦ found_there shown i file low c.file-item.is c.if-eq.found (λ one. one.now.bytes.items) name w.found-is refl (is ∙ w.if-eq.true)
      | else-eq w ↦ subst (λ found. IsFoundIn found (λ one. one.now.bytes.items) (take (i + 1) shown) name) (sym w.found-is)
          (found_before shown i file low c.file-item.is c.loop-file.found (λ one. one.now.bytes.items) name (is ∙ w.if-eq.false) c.loop-file.invariant)
    ]

pub returns : goal.returns
returns c =
    subst (λ (all : List NewFile). IsFoundIn c.loop-file.found (λ file. file.now.bytes.items) all c.args.name.now)
    (take_all c.loop-file.file-index c.args.shown.now (omega arith)) c.loop-file.invariant
