-- Which faults of a table are about the words that were given.
use Rattle.std.specs.Prelude.{◌≡◌, ℕ, List, [], ◌∷◌, ◌++◌, ◌==◌, ◌||◌, Bool, if◌then◌else◌, filter, map, nat_eq}
use Rattle.std.specs.List.{flat_map, starts_with}
use Rattle.cq_text.specs.Lines.{input_lines}

-- a fault: the part of its text that is the same in each message, its text, and what is printed below it
pub record Fault : Type 0 where
  pub fixed : List ℕ
  pub text : List ℕ
  pub below : List ℕ

-- each three lines are a fault
abbrev pub faults_in : List (List ℕ) → List Fault
faults_in [] = []
faults_in (fixed ∷ []) = []
faults_in (fixed ∷ text ∷ []) = []
faults_in (fixed ∷ text ∷ below ∷ lines) = record { fixed = fixed; text = text; below = below } ∷ faults_in lines

-- the words with a space between them
abbrev pub joined : List (List ℕ) → List ℕ
joined [] = []
joined (word ∷ words) = word ++ flat_map (λ more. 32 ∷ more) words

-- the part is somewhere in the text
abbrev pub holds : List ℕ → List ℕ → Bool
holds [] part = starts_with nat_eq [] part
holds (byte ∷ text) part = starts_with nat_eq (byte ∷ text) part || holds text part

-- what was given is in the fault's text, or a message with this fault is in what was given
abbrev pub is_about : List ℕ → Fault → Bool
is_about given fault = holds fault.text given || holds given fault.fixed

-- the faults of the table that are about what was given, in their order
abbrev pub faults_for : List ℕ → List ℕ → List Fault
faults_for given table = filter (is_about given) (faults_in (input_lines table))

-- a tab is printed as a line feed
abbrev pub unfolded : ℕ → ℕ
unfolded byte = if byte == 9 then 10 else byte

-- a fault as it is printed, with an empty line after it
abbrev pub fault_text : Fault → List ℕ
fault_text fault = fault.text ++ (map unfolded fault.below ++ (10 ∷ 10 ∷ []))

-- the text of these faults
abbrev pub advice : List Fault → List ℕ
advice faults = flat_map fault_text faults
