use Rattle.std.proofs.Common.{◌≡◌, ◌≢◌, ◌∙◌, ◌⊎◌, ℕ, List, inl, inr, subst, sym}
use Rattle.std.specs.Prelude.{Err, IfErr, IsErrAnd, Ok, OnErr, OnOk, Option, Result}
use Rattle.std.specs.Io.KnownBytes.{Appends, Keeps}
use Rattle.std.proofs.KnownBytes.{Keeps-refl}
use Rattle.cq_cycle.specs.Cycle.{IsMoment}
use Rattle.cq_cycle.specs.RollWord.{roll_word}
use Rattle.cq_cycle.specs.declared.roll.Roll.{Roll}
use Rattle.cq_text.specs.CycleLine.{HasCause, IsCycleLine, IsLineOf}
use Rattle.cq_text.specs.Output.{AppendsBeginning}
use Rattle.cq_text.specs.declared.fault.ToolFault.{ToolFault}
use Rattle.cq_text.specs.declared.fault.ToolFault.TheVariants.{BadConfig, BadMoment, OutOfMemory, WriteFault}
use Rattle.cq_text.proofs.cycle_line.cycle.Goals as goal

module _ (word : List ℕ) (epoch moment : ℕ) (before after : Option (List ℕ)) where
  -- how the command ends
  abbrev Ends : {T : Type 0} → Result T ToolFault → Type 0
  Ends result = record {
    written : OnOk result ((text : List ℕ) × IsCycleLine word epoch moment text × Appends before after text);
    fault : IfErr result (HasCause word epoch moment);
    silent : IfErr result (λ fault. fault ≢ WriteFault → Keeps before after);
    broken : IfErr result (λ fault. fault ≡ WriteFault
        → (text : List ℕ) × IsCycleLine word epoch moment text × AppendsBeginning before after text);
  }

  -- with a fault that comes before anything is written
  refused : {T : Type 0} (result : Result T ToolFault) (fault : ToolFault) → IsErrAnd result (λ passed. passed ≡ fault)
      → fault ≢ WriteFault → HasCause word epoch moment fault → Keeps before after → Ends result
  refused (Ok value) fault is other cause keeps = absurd is
  refused (Err passed) fault is other cause keeps = record {
    written = tt;
    fault = subst (HasCause word epoch moment) (sym is) cause;
    silent = λ _. keeps;
    broken = λ printed. absurd (other (sym is ∙ printed));
  }

  -- with what came of printing the line
  printed : {T : Type 0} (text : List ℕ) → IsCycleLine word epoch moment text → (result : Result T ToolFault)
      → OnOk result (Appends before after text) → IfErr result (λ fault. fault ≡ WriteFault)
      → OnErr result (AppendsBeginning before after text) → Ends result
  printed text line (Ok value) written fault begun =
      record { written = (text, line, written); fault = tt; silent = tt; broken = tt }
  printed text line (Err fault) written is begun = record {
    written = tt;
    fault = subst (HasCause word epoch moment) (sym is) (text, line);
    silent = λ other. absurd (other is);
    broken = λ _. (text, line, begun);
  }

-- why a line is not made, of a roll that has the word
line_cause : (word : List ℕ) (epoch moment : ℕ) (roll : Roll) (fault : ToolFault) → word ≡ roll_word roll
    → (fault ≡ OutOfMemory) ⊎ ((fault ≡ BadMoment) × ¬ IsMoment roll epoch moment)
    → (fault ≢ WriteFault) × HasCause word epoch moment fault
line_cause word epoch moment roll fault known (inl is) =
    ((λ printed. let e : OutOfMemory ≡ WriteFault = sym is ∙ printed in cc), subst (HasCause word epoch moment) (sym is) tt)
line_cause word epoch moment roll fault known (inr (is, none)) = (
  (λ printed. let e : BadMoment ≡ WriteFault = sym is ∙ printed in cc),
  subst (HasCause word epoch moment) (sym is) (roll, known, none),
)

pub returns-in_default : goal.returns-in_default
returns-in_default g c = record {
  written = tt;
  fault = λ roll named. let e = c.in_default.ensures.only roll named in cc;
  silent = λ _. Keeps-refl (g.W.Write.contents c.args.output.now);
  broken = λ printed. absurd (let e : BadConfig ≡ WriteFault = printed in cc);
}

pub returns-in_err-line : goal.returns-in_err-line
returns-in_err-line g c =
    let why = line_cause _ _ _ _ c.in_err-line.field-0.0 c.in-Some.ensures.found c.in_err-line.ensures.fault in
    refused _ _ _ _ _ c.from_residual.result _ c.from_residual.ensures.1 why.0 why.1 (Keeps-refl (g.W.Write.contents c.args.output.now))

pub returns : goal.returns
returns g c =
    let roll = c.in-Some.roll in
    let made : IsCycleLine c.args.roll.now c.args.epoch c.args.moment c.as_bytes.result.now = record {
      roll = roll;
      known = c.in-Some.ensures.found;
      lies = c.in_ok-line.ensures.line.0;
      line = subst (IsLineOf roll c.args.epoch c.args.moment) (sym c.as_bytes.ensures.value) c.in_ok-line.ensures.line.1;
    } in
    printed _ _ _ _ _ c.as_bytes.result.now made c.print.result c.print.ensures.written c.print.ensures.fault c.print.ensures.begun
