use Rattle.std.proofs.Common.{◌≡◌, List, [], ◌∷◌, ◌++◌, ap, inl, inr, subst, ℕ, ◌∙◌}
use Rattle.std.specs.List.{AllByRecursion}
use Rattle.std.specs.Str.{IsUtf8}
use Rattle.cq_model.specs.Settings.{texts}
use Rattle.cq_text.specs.Lines.{input_lines}
use Rattle.linnetshelf.specs.Asked.{HasNoNames, IsNoName}
use Rattle.linnetshelf.specs.declared.status.Status.{Status}
use Rattle.linnetshelf.proofs.settings.names_in.Goals as goal

-- where all lines are text, each is
line_is_text : (before : List (List ℕ)) (line : List ℕ) (rest : List (List ℕ))
    → AllByRecursion IsUtf8 (before ++ line ∷ rest) → IsUtf8 line
line_is_text [] line rest all = all.0
line_is_text (b ∷ before) line rest all = line_is_text before line rest all.1

-- where one line is no name, the lines are no names
no_names : (text : List ℕ) (before : List (List ℕ)) (line : List ℕ) (rest : List (List ℕ)) (how : Status)
    → input_lines text ≡ before ++ line ∷ rest → IsNoName line how → HasNoNames text how
no_names text before line rest how is (inl bad) =
    inl (bad.0, λ all. bad.1 (line_is_text before line rest (subst (AllByRecursion IsUtf8) is all)))
no_names text before line rest how is (inr want) = inr want

pub returns-in-Err-clause-err : goal.returns-in-Err-clause-err
returns-in-Err-clause-err c =
    let before = texts c.loop-line.names.items in
    no_names c.args.text.now before c.in-Some.line.now (input_lines c.next.new.self.rest.now) c.in-Err.status
    (c.loop-line.invariant ∙ ap (λ (lines : List (List ℕ)). before ++ lines) c.in-Some.ensures.steps)
    c.in-Err.ensures.err
