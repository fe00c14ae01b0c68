use Rattle.std.proofs.Common.{◌≡◌, ◌≢◌, ◌∙◌, ◌+◌, IfSome, IsSomeAnd, ap, arith, length, not, refl, rules, string_bytes, subst, sym, vec_len}
use Rattle.std.proofs.lemmas.Bool.{false≢true}
use Rattle.std.proofs.lemmas.Bool.Decides.{Decides-eqb}
use Rattle.std.proofs.lemmas.List.{length-map}
use Rattle.std.proofs.lemmas.Slice.Eq.{slice_eq-Decides}
use Rattle.cq_real_folder.specs.Record.{AreFileNames, IsRecordOf}
use Rattle.cq_real_folder.proofs.ReadLemmas.{same_text}
use Rattle.cq_real_folder.proofs.record.Record.read.Goals as goal

pub returns-then-names_none-clause-only : goal.returns-then-names_none-clause-only
returns-then-names_none-clause-only c process names removed lawful spelled =
    let found = c.in-Some.record in
    let read : IsRecordOf found process names removed =
    subst (λ r. IsSomeAnd r (λ found. IsRecordOf found process names removed)) c.in-Some.is
    (c.in_ok-record.ensures.only process names removed lawful spelled) in
    let written : length found.names.items ≡ length names =
    sym (length-map found.names.items string_bytes) ∙ ap length read.renames ∙ length-map names string_bytes in
    let gone : length found.removed.items ≡ length removed =
    sym (length-map found.removed.items string_bytes) ∙ ap length read.removals ∙ length-map removed string_bytes in
    let none : length found.names.items + length found.removed.items ≡ 0 = search rules in
    omega (arith, none, written, gone, lawful.some)

pub returns-then-ne-clause-only : goal.returns-then-ne-clause-only
returns-then-ne-clause-only c process names removed lawful spelled =
    let found = c.in-Some.record in
    let read : IsRecordOf found process names removed =
    subst (λ r. IsSomeAnd r (λ found. IsRecordOf found process names removed)) c.in-Some.is
    (c.in_ok-record.ensures.only process names removed lawful spelled) in
    let same = same_text found.process process found.names.items names found.removed.items removed read.number read.renames read.removals in
    let bytes : c.as_bytes.result.now ≡ c.args.text.now = c.as_bytes.ensures.value ∙ c.in_ok-text.ensures ∙ same ∙ sym spelled in
    let equal = (slice_eq-Decides Decides-eqb c.as_bytes.result.now c.args.text.now _ refl).1 bytes in
    false≢true (sym (c.ne.ensures ∙ ap not equal) ∙ c.if-ne.true)

pub returns-clause-some : goal.returns-clause-some
returns-clause-some c =
    let found = c.in-Some.record in
    let some : vec_len found.names + vec_len found.removed ≢ 0 =
    λ none. false≢true (sym c.if-names_none.false ∙ c.names_none.ensures.1 none) in
    omega (arith, some)

pub returns-clause-names : goal.returns-clause-names
returns-clause-names c =
    subst (λ r. IfSome r (λ found. AreFileNames found.names.items)) c.in-Some.is c.in_ok-record.ensures.names

pub returns-clause-removed : goal.returns-clause-removed
returns-clause-removed c =
    subst (λ r. IfSome r (λ found. AreFileNames found.removed.items)) c.in-Some.is c.in_ok-record.ensures.removed

pub returns-clause-only : goal.returns-clause-only
returns-clause-only c process names removed lawful spelled =
    subst (λ r. IsSomeAnd r (λ found. IsRecordOf found process names removed)) c.in-Some.is
    (c.in_ok-record.ensures.only process names removed lawful spelled)
