-- What `cycle` writes, and why it does not.
use Rattle.std.specs.Prelude.{◌≡◌, ◌≢◌, ⊤, ℕ, List, ◌++◌, codes}
use Rattle.std.specs.Fmt.{decimal}
use Rattle.cq_cycle.specs.declared.roll.Roll.{Roll}
use Rattle.cq_cycle.specs.Cycle.{IsMoment, cycle_of}
use Rattle.cq_cycle.specs.Index.{index_of, index_text}
use Rattle.cq_cycle.specs.Name.{IsName}
use Rattle.cq_text.specs.declared.fault.ToolFault.{ToolFault}
use Rattle.cq_text.specs.declared.fault.ToolFault.TheVariants.{BadConfig, BadMoment, OutOfMemory, WriteFault}
use Rattle.cq_cycle.specs.RollWord.{roll_word}

-- the number of the cycle in which a moment lies, its name and its first index, with a space between, and a line feed
pub record IsLineOf (roll : Roll) (epoch moment : ℕ) (text : List ℕ) : Type 0 where
  pub name : List ℕ
  pub named : IsName roll epoch (cycle_of roll epoch moment) name
  pub spelled : text ≡ decimal (cycle_of roll epoch moment) ++ (codes " " ++ (name ++ (codes " "
      ++ (index_text (index_of (cycle_of roll epoch moment) 0) ++ codes "\n"))))

-- the word names a roll, in which the moment lies in a cycle, and this is its line
pub record IsCycleLine (word : List ℕ) (epoch moment : ℕ) (text : List ℕ) : Type 0 where
  pub roll : Roll
  pub known : word ≡ roll_word roll
  pub lies : IsMoment roll epoch moment
  pub line : IsLineOf roll epoch moment text

-- the fault has its cause: no roll has the word, or the moment lies in no cycle of the roll that has it
abbrev pub HasCause : List ℕ → ℕ → ℕ → ToolFault → Type 0
HasCause word epoch moment BadConfig = (roll : Roll) → word ≢ roll_word roll
HasCause word epoch moment BadMoment = (roll : Roll) × (word ≡ roll_word roll) × ¬ IsMoment roll epoch moment
HasCause word epoch moment WriteFault = (text : List ℕ) × IsCycleLine word epoch moment text
HasCause word epoch moment OutOfMemory = ⊤
HasCause word epoch moment _ = ⊥
