use Rattle.std.proofs.Common.{◌∙◌, ◌∷◌, ◌++◌, All, Global, List, None, Some, String, ap, arith, length, length-append, rules, string_bytes, subst, sym}
use Rattle.std.proofs.lemmas.Bool.{false≢true}
use Rattle.std.proofs.lemmas.List.Elements.{All-push}
use Rattle.std.proofs.lemmas.Str.Pattern.{split_parts}
use Rattle.cq_real_folder.specs.Record.{BeginsWithNoName, IsFileName, name_text}
use Rattle.cq_real_folder.proofs.ReadLemmas.{line_no_name, no_line_no_name, one_more_name}
use Rattle.cq_real_folder.proofs.record.names_on.Goals as goal

pub loop-line-smaller : goal.loop-line-smaller
loop-line-smaller c =
    let parts = split_parts 10 c.loop-line.rest.now (Some (c.in-Some.line, c.in-Some.after)) c.in-Some.ensures.cases (omega arith) in
    omega (arith, ap length parts.0, length-append c.in-Some.line.now (10 ∷ c.in-Some.after.now))

pub loop-line-preserved : goal.loop-line-preserved
loop-line-preserved c =
    let P : String Global → Type 0 = λ name. IsFileName (string_bytes name) in
    let names = c.loop-line.names.items in
    let name = c.in_ok-from_str.field-0 in
    let spelled = c.in_ok-from_str.ensures.ok in
    let parts = split_parts 10 c.loop-line.rest.now (Some (c.in-Some.line, c.in-Some.after)) c.in-Some.ensures.cases (omega arith) in (
      subst (All P) (sym {A = List (String Global)} c.in_ok-push.ensures.items)
          (All-push P names name c.loop-line.invariant.0
          (subst IsFileName (sym spelled) (c.is_file_name.ensures.0 c.if-not-is_file_name.false))),
      one_more_name c.args.text.now names name c.in-Some.line.now c.loop-line.rest.now c.in-Some.after.now c.loop-line.invariant.1 parts.0 spelled
          ∙ ap (λ (all : List (String Global)). name_text all ++ c.in-Some.after.now) (sym {A = List (String Global)} c.in_ok-push.ensures.items),
      search rules,
    )

pub returns-then-not-is_file_name-clause-no_more : goal.returns-then-not-is_file_name-clause-no_more
returns-then-not-is_file_name-clause-no_more c =
    let parts = split_parts 10 c.loop-line.rest.now (Some (c.in-Some.line, c.in-Some.after)) c.in-Some.ensures.cases (omega arith) in
    subst BeginsWithNoName (sym parts.0)
    (line_no_name c.in-Some.line.now c.in-Some.after.now parts.1
    (λ is. false≢true (sym c.if-not-is_file_name.true ∙ c.is_file_name.ensures.1 is)))

pub returns-clause-no_more : goal.returns-clause-no_more
returns-clause-no_more c =
    no_line_no_name c.loop-line.rest.now (split_parts 10 c.loop-line.rest.now None c.in_default.ensures.cases (omega arith))
