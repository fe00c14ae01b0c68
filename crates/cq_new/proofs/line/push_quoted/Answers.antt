use Rattle.std.proofs.Common.{◌≡◌, ◌++◌, ◌∷◌, [], ◌∙◌, string_bytes, rules, lit<}
use Rattle.cq_new.proofs.QuoteLemmas.{quote-done, quote-step}
use Rattle.cq_new.proofs.line.push_quoted.Goals as goal

pub loop-front-preserved : goal.loop-front-preserved
loop-front-preserved c =
    let cut = c.in-Some.ensures.byte (lit< tt) (λ w o found. found) in (
      search rules,
      quote-step (string_bytes c.loop-front.line) (string_bytes c.push_str.new.self) (string_bytes c.push_str-in-Some.new.self) c.in-Some.front.now
          c.loop-front.rest.now c.in-Some.back.now _ c.in_ok-push_str.ensures.bytes c.in_ok-push_str-2.ensures.bytes cut.0 cut.1 cut.2 c.loop-front.invariant.1,
    )

pub returns : goal.returns
returns c =
    quote-done c.push_str-2.result (string_bytes c.loop-front.line) (string_bytes c.push_str-2.new.self) c.loop-front.rest.now _
    c.push_str-2.ensures.bytes (c.in_default.ensures.byte (lit< tt) (λ w o found. found)) c.loop-front.invariant.1
