-- The first faulty line of a text.
use Rattle.std.proofs.Common.{◌≡◌, ◌==◌, ◌⊎◌, ℕ, ◌+◌, ◌<◌, List, [], ◌∷◌, length, get_or, drop, refl, ap, subst, sym, ◌∙◌, arith, false, true, cond, nat_eq, Some, None}
use Rattle.std.proofs.lemmas.Bool.Decides.{nat_tests}
use Rattle.std.proofs.lemmas.List.Splits.{length-slice_split}
use Rattle.std.specs.List.{slice_split}
use Rattle.std.specs.Prelude.{IfErr, IfOk, IsErrAnd, OnOk, Option, Result, Ok, Err, option_map}
use Rattle.cq_config_text.specs.ConfigText.{Form, fault_from, first_fault, has_form, name_form}
use Rattle.cq_config_text.specs.declared.config_fault.ConfigFault.{ConfigFault}
use Rattle.cq_config_text.specs.declared.config_fault.ConfigFault.TheVariants.{Line, OutOfMemory}

-- the parts of a text between its line feeds
abbrev pub lines_in : List ℕ → List (List ℕ)
lines_in = slice_split (λ byte. byte == 10)

first_of : (number : ℕ) (forms : List Form) (line : List ℕ) (parts : List (List ℕ)) → 0 < length parts
    → first_fault number forms (line ∷ parts)
    ≡ cond (has_form (get_or forms 0 name_form) line) (first_fault (number + 1) (drop 1 forms) parts) (Some number)
unfolding first_fault
first_of number forms line [] some = absurd (omega arith)
first_of number forms line (next ∷ parts) some = refl

-- a text that begins with a whole line
module _ (text line rest : List ℕ) (parts : lines_in text ≡ line ∷ lines_in rest) (number : ℕ) (forms : List Form) where
  of_line : fault_from number forms text
      ≡ cond (has_form (get_or forms 0 name_form) line) (fault_from (number + 1) (drop 1 forms) rest) (Some number)
  unfolding fault_from
  of_line =
      ap (first_fault number forms) parts
      ∙ first_of number forms line (lines_in rest) (omega (arith, length-slice_split (λ byte. byte == 10) rest))

  pub fault_behind : has_form (get_or forms 0 name_form) line ≡ true
      → fault_from number forms text ≡ fault_from (number + 1) (drop 1 forms) rest
  fault_behind passes = of_line ∙ ap (λ b. cond b (fault_from (number + 1) (drop 1 forms) rest) (Some number)) passes

  pub fault_here : has_form (get_or forms 0 name_form) line ≡ false → fault_from number forms text ≡ Some number
  fault_here fails = of_line ∙ ap (λ b. cond b (fault_from (number + 1) (drop 1 forms) rest) (Some number)) fails

-- a text with no line feed is at fault, unless it is empty and no line is wanted
pub fault_at_end : (text : List ℕ) → lines_in text ≡ text ∷ [] → (number : ℕ) (forms : List Form)
    → 0 < length forms + length text → fault_from number forms text ≡ Some number
unfolding fault_from first_fault
fault_at_end text parts number forms some =
    let left : nat_eq (length forms + length text) 0 ≡ false = grind (arith, nat_tests) in
    ap (first_fault number forms) parts ∙ ap (λ b. cond b None (Some number)) left

pub no_fault_at_end : (text : List ℕ) → length text ≡ 0 → (number : ℕ) → fault_from number [] text ≡ None
unfolding fault_from first_fault
no_fault_at_end [] none number = refl
no_fault_at_end (byte ∷ text) none number = absurd (omega arith)

-- a line that is refused is the first faulty one
pub line_refused : {T : Type 0} (result : Result T ConfigFault) (fault : ConfigFault) (number : ℕ) (faulty : Option ℕ)
    → IsErrAnd result (λ passed. passed ≡ fault) → fault ≡ Line number → faulty ≡ Some number
    → IfErr result (λ passed. option_map (λ line. Line line) faulty ≡ Some passed)
line_refused (Ok value) fault number faulty is line first = tt
line_refused (Err passed) fault number faulty is line first =
    ap (option_map (λ line. Line line)) first ∙ ap Some (sym (is ∙ line))

-- with a fault that is passed on, nothing is known of the names that were read
pub names_unread : {T : Type 0} (IsWritable IsFound : T → Type 0) (faulty : Option ℕ) (result : Result T ConfigFault) (fault : ConfigFault)
    → IsErrAnd result (λ passed. passed ≡ fault) → (fault ≡ OutOfMemory) ⊎ (option_map (λ line. Line line) faulty ≡ Some fault) → record {
      writable : IfOk result IsWritable;
      found : IfOk result IsFound;
      whole : OnOk result (faulty ≡ None);
      fault : IfErr result (λ fault. (fault ≡ OutOfMemory) ⊎ (option_map (λ line. Line line) faulty ≡ Some fault));
    }
names_unread IsWritable IsFound faulty (Ok value) fault is why = absurd is
names_unread IsWritable IsFound faulty (Err passed) fault is why = record {
  writable = tt;
  found = tt;
  whole = tt;
  fault = subst (λ (f : ConfigFault). (f ≡ OutOfMemory) ⊎ (option_map (λ line. Line line) faulty ≡ Some f)) (sym is) why;
}
