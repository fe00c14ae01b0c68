-- Where a section of an input ends.
use Rattle.std.specs.Prelude.{◌≡◌, ◌≢◌, ◌⊎◌, ◌<◌, ◌+◌, ◌-◌, [], List, drop, get_or, length, take, ℕ}
use Rattle.cq_input.specs.declared.sections.Place.TheVariants.{AtEnd, AtEndOfInput, Inside}
use Rattle.cq_input.specs.declared.sections.Sections.{Sections}

abbrev pub HasNoLineFeed : List ℕ → Type 0
HasNoLineFeed bytes = (i : ℕ) → i < length bytes → get_or bytes i 0 ≢ 10

-- the first line feed of these bytes is at this place
pub record IsFirstLineFeed (bytes : List ℕ) (at : ℕ) : Type 0 where
  pub within : at < length bytes
  pub is : get_or bytes at 0 ≡ 10
  pub first : (i : ℕ) → i < at → get_or bytes i 0 ≢ 10

-- a section that misses this many bytes does not end in these: no line feed comes when it has enough
abbrev pub GoesOnIn : ℕ → List ℕ → Type 0
GoesOnIn missing bytes = HasNoLineFeed (drop (missing - 1) bytes)

-- it ends after this many of them: with the first line feed that comes when it has enough
pub record EndsAfter (missing : ℕ) (bytes : List ℕ) (count : ℕ) : Type 0 where
  pub at : ℕ
  pub is : IsFirstLineFeed (drop (missing - 1) bytes) at
  pub count_is : count ≡ missing - 1 + at + 1

module _ {R : Type 0} where
  -- a section of this input begins, which is to have at least this many bytes
  pub record IsAtStart (input : R) (least : ℕ) (sections : Sections R) : Type 0 where
    pub input_is : sections.input ≡ input
    pub least_is : sections.least ≡ least
    pub missing : sections.missing ≡ least
    pub place : sections.place ≡ Inside

  pub record KeepsItsPlace (old new : Sections R) : Type 0 where
    pub least : new.least ≡ old.least
    pub missing : new.missing ≡ old.missing
    pub place : new.place ≡ old.place

  -- bytes came, and these of them were taken: up to the end of the section; or all, and it goes on; or none, as the input has ended
  pub record Gives (old new : Sections R) (bytes : List ℕ) : Type 0 where
    pub came : List ℕ
    pub first : bytes ≡ take (length bytes) came
    pub least : new.least ≡ old.least
    pub missing : new.missing ≡ old.missing - length bytes
    pub place : ((new.place ≡ AtEnd) × EndsAfter old.missing came (length bytes))
        ⊎ ((new.place ≡ Inside) × GoesOnIn old.missing came × (length bytes ≡ length came))
        ⊎ ((new.place ≡ AtEndOfInput) × (came ≡ []))
