-- How an input splits at its first line feed.
use Rattle.std.proofs.Common.{◌≡◌, ◌≢◌, ℕ, zero, suc, ◌+◌, ◌-◌, ◌<◌, List, [], ◌∷◌, ◌++◌, All, length, get_or, take, drop, refl, ap, sym, ◌∙◌, append_assoc, arith, nat_eq, false}
use Rattle.std.proofs.lemmas.Bool.Decides.{nat_tests}
use Rattle.std.proofs.lemmas.List.{take_rest}
use Rattle.cq_text.specs.Lines.{input_lines, with_first_byte, IsLine, text_of}

pub input_lines-empty : (bytes : List ℕ) → length bytes ≡ 0 → input_lines bytes ≡ []
unfolding input_lines
input_lines-empty [] e = refl
input_lines-empty (byte ∷ bytes) e = absurd (omega arith)

input_lines-feed : (byte : ℕ) (bytes : List ℕ) → byte ≡ 10 → input_lines (byte ∷ bytes) ≡ [] ∷ input_lines bytes
unfolding input_lines
input_lines-feed byte bytes e = rw e refl

input_lines-other : (byte : ℕ) (bytes : List ℕ) → byte ≢ 10 → input_lines (byte ∷ bytes) ≡ with_first_byte byte (input_lines bytes)
unfolding input_lines
input_lines-other byte bytes other = let e : nat_eq byte 10 ≡ false = grind (arith, nat_tests) in rw e refl

input_lines-suc : (bytes : List ℕ) (at : ℕ) → at < length bytes → get_or bytes at 0 ≡ 10 → ((k : ℕ) → k < at → get_or bytes k 0 ≢ 10)
    → input_lines bytes ≡ take at bytes ∷ input_lines (drop (suc at) bytes)
input_lines-suc [] at within e before = absurd (omega arith)
input_lines-suc (byte ∷ bytes) zero within e before = input_lines-feed byte bytes e
input_lines-suc (byte ∷ bytes) (suc at) within e before =
    let again = input_lines-suc bytes at (omega arith) e (λ k lt. before (suc k) (omega arith)) in
    input_lines-other byte bytes (before zero (omega arith)) ∙ ap (with_first_byte byte) again

-- the first line ends at the first line feed
pub input_lines-at : (bytes : List ℕ) (at : ℕ) → at < length bytes → get_or bytes at 0 ≡ 10 → ((k : ℕ) → k < at → get_or bytes k 0 ≢ 10)
    → input_lines bytes ≡ take at bytes ∷ input_lines (take (length bytes - (at + 1)) (drop (at + 1) bytes))
input_lines-at bytes at within e before =
    let next : suc at ≡ at + 1 = omega arith in
    input_lines-suc bytes at within e before
    ∙ ap (λ (rest : List ℕ). take at bytes ∷ input_lines rest) (ap (λ (n : ℕ). drop n bytes) next ∙ sym (take_rest bytes (at + 1)))

-- where there is no line feed, all is one line
pub input_lines-last : (bytes : List ℕ) → 0 < length bytes → ((k : ℕ) → k < length bytes → get_or bytes k 0 ≢ 10)
    → input_lines bytes ≡ bytes ∷ input_lines []
unfolding input_lines
input_lines-last [] some none = absurd (omega arith)
input_lines-last (byte ∷ []) some none = input_lines-other byte [] (none zero (omega arith))
input_lines-last (byte ∷ next ∷ bytes) some none =
    input_lines-other byte (next ∷ bytes) (none zero (omega arith))
    ∙ ap (with_first_byte byte) (input_lines-last (next ∷ bytes) (omega arith) (λ k lt. none (suc k) (omega arith)))

input_lines-line : (line rest : List ℕ) → IsLine line → input_lines (line ++ 10 ∷ rest) ≡ line ∷ input_lines rest
input_lines-line [] rest is = input_lines-feed 10 rest refl
input_lines-line (byte ∷ line) rest is =
    input_lines-other byte (line ++ 10 ∷ rest) (is zero 0 (omega arith))
    ∙ ap (with_first_byte byte) (input_lines-line line rest (λ k x lt. is (suc k) x (omega arith)))

-- lines in front are read first
pub input_lines-text_of : (lines : List (List ℕ)) (rest : List ℕ) → All IsLine lines → input_lines (text_of lines ++ rest) ≡ lines ++ input_lines rest
input_lines-text_of [] rest all = refl
input_lines-text_of (line ∷ lines) rest all =
    ap input_lines (append_assoc (line ++ 10 ∷ []) (text_of lines) rest ∙ append_assoc line (10 ∷ []) (text_of lines ++ rest))
    ∙ input_lines-line line (text_of lines ++ rest) (all zero [] (omega arith))
    ∙ ap (λ (more : List (List ℕ)). line ∷ more) (input_lines-text_of lines rest (λ k x lt. all (suc k) x (omega arith)))
