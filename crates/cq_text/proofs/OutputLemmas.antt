-- What is written of a text, part by part.
use Rattle.std.proofs.Common.{◌≡◌, ℕ, ◌+◌, ◌-◌, ◌++◌, List, length, drop, take, ap, subst, sym, ◌∙◌, Result, Ok, Err, take_all, arith}
use Rattle.std.proofs.lemmas.List.{drop-drop, take_rest}
use Rattle.std.proofs.Math.Seq.{take-add}
use Rattle.std.specs.Prelude.{IfErr, OnErr, Option}
use Rattle.std.specs.Io.KnownBytes.{Appends, Keeps}
use Rattle.std.proofs.KnownBytes.{Appends-kept, Appends-trans}
use Rattle.cq_text.specs.Output.{AppendsBeginning}
use Rattle.cq_text.specs.declared.fault.ToolFault.{ToolFault}
use Rattle.cq_text.specs.declared.fault.ToolFault.TheVariants.{WriteFault}

-- n bytes more of the text were written
pub one_written : (a b c : Option (List ℕ)) (text rest left : List ℕ) (count n : ℕ) → rest ≡ drop count text
    → left ≡ take (length rest - n) (drop n rest)
    → Appends a b (take count text) → Appends b c (take n rest)
    → (x : ℕ) × (left ≡ drop x text) × Appends a c (take x text)
one_written a b c text rest left count n split cut before more = (
  count + n,
  cut ∙ take_rest rest n ∙ ap (drop n) split ∙ drop-drop n count text,
  subst (Appends a c) (ap (λ part. take count text ++ part) (ap (take n) split) ∙ sym (take-add count n text))
      (Appends-trans a b c _ _ before more),
)

-- the whole text was written, and the writer kept it
pub whole_written : {T E : Type 0} (result : Result T E) (a b c : Option (List ℕ)) (text : List ℕ)
    → Appends a b text → Keeps b c → OnErr result (AppendsBeginning a c text)
whole_written (Ok value) a b c text written kept = tt
whole_written (Err fault) a b c text written kept =
    (length text, subst (Appends a c) (sym (take_all (length text) text (omega arith))) (Appends-kept a b c text written kept))

-- what a text that was not written to its end left says this of the command that wrote it
pub cut_short : {T P Q : Type 0} (result : Result T ToolFault) → (P → Q) → OnErr result P
    → IfErr result (λ fault. fault ≡ WriteFault → Q)
cut_short (Ok value) so begun = tt
cut_short (Err fault) so begun = λ unwritten. so begun
