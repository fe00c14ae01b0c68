-- The index that a word means.
use Rattle.std.specs.Prelude.{◌≡◌, ℕ, ◌<◌, ◌^◌, ◌∷◌, List}
use Rattle.std.specs.Str.Parse.{IsNumeral, digits_value, without_leading_plus}
use Rattle.cq_cycle.specs.Cycle.{HasCycle, IsMoment, cycle_of}
use Rattle.cq_cycle.specs.Index.{index_of, index_text}
use Rattle.cq_cycle.specs.Name.{IsName, NamesNoCycle}
use Rattle.cq_cycle.specs.declared.roll.Roll.{Roll}
use Rattle.cq_text.specs.declared.fault.ToolFault.{ToolFault}
use Rattle.cq_text.specs.declared.fault.ToolFault.TheVariants.{BadIndex, BadMoment}

-- the word spells the moment: `@`, which is 64, and the moment's decimal digits
pub record SpellsMoment (word : List ℕ) (moment : ℕ) : Type 0 where
  pub digits : List ℕ
  pub spelled : word ≡ 64 ∷ digits
  pub numeral : IsNumeral 10 (without_leading_plus digits)
  pub moment_is : moment ≡ digits_value 10 (without_leading_plus digits)
  pub below : moment < 2 ^ 64

-- the word means an index: the one that it spells, or the first one of the cycle of a moment, or of the cycle of this name
pub data MeansPoint (roll : Roll) (epoch : ℕ) (word : List ℕ) (point : ℕ) : Type 0 where
  of_index : point < 2 ^ 64 → word ≡ index_text point → MeansPoint roll epoch word point
  of_moment : (moment : ℕ) → SpellsMoment word moment → IsMoment roll epoch moment
      → point ≡ index_of (cycle_of roll epoch moment) 0 → MeansPoint roll epoch word point
  of_name : (cycle : ℕ) → HasCycle roll epoch cycle → IsName roll epoch cycle word → point ≡ index_of cycle 0
      → MeansPoint roll epoch word point

-- the word is none of an index, a moment and the name of a cycle
pub record MeansNone (roll : Roll) (epoch : ℕ) (word : List ℕ) : Type 0 where
  pub no_index : (index : ℕ) → index < 2 ^ 64 → ¬ (word ≡ index_text index)
  pub no_moment : (moment : ℕ) → ¬ SpellsMoment word moment
  pub no_name : NamesNoCycle roll epoch word

-- why a word means no index: its moment lies in no cycle, or it is no such word
abbrev pub IsPointFault : Roll → ℕ → List ℕ → ToolFault → Type 0
IsPointFault roll epoch word BadMoment = (moment : ℕ) × SpellsMoment word moment × ¬ IsMoment roll epoch moment
IsPointFault roll epoch word BadIndex = MeansNone roll epoch word
IsPointFault roll epoch word _ = ⊥
