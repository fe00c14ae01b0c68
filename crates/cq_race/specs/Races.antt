-- What a race appends, and what is counted of what was read.
use Rattle.std.specs.Prelude.{◌≡◌, ⊤, ℕ, ◌*◌, ◌≤◌, ◌⊎◌, zero, suc, List, [], ◌∷◌, ◌++◌, codes, length, take}
use Rattle.std.specs.Fmt.{decimal}

-- message `number` of a writer: both in decimal
abbrev pub message_of : ℕ → ℕ → List ℕ
message_of writer number = decimal writer ++ (codes " " ++ decimal number)

-- the first messages of a writer
abbrev pub messages_of : ℕ → ℕ → List (List ℕ)
messages_of writer zero = []
messages_of writer (suc count) = messages_of writer count ++ message_of writer count ∷ []

-- the first list stands in the second one in this order, maybe with others before, between and behind
abbrev pub IsWithin : List (List ℕ) → List (List ℕ) → Type 0
IsWithin [] read = ⊤
IsWithin (m ∷ ms) [] = ⊥
IsWithin (m ∷ ms) (n ∷ read) = ((m ≡ n) × IsWithin ms read) ⊎ IsWithin (m ∷ ms) read

-- so many of the messages, from the first on, were read in this order, and not one more
pub record IsInOrder (messages read : List (List ℕ)) (count : ℕ) : Type 0 where
  pub most : count ≤ length messages
  pub within : IsWithin (take count messages) read
  pub longest : (more : ℕ) → more ≤ length messages → IsWithin (take more messages) read → more ≤ count

-- so many were read in this order by both readers, and not one more
pub record IsInOrderForBoth (messages first second : List (List ℕ)) (count : ℕ) : Type 0 where
  pub most : count ≤ length messages
  pub in_first : IsWithin (take count messages) first
  pub in_second : IsWithin (take count messages) second
  pub longest : (more : ℕ) → more ≤ length messages → IsWithin (take more messages) first
      → IsWithin (take more messages) second → more ≤ count

-- the four lines of a race
abbrev pub tally_text : ℕ → ℕ → ℕ → ℕ → List ℕ
tally_text by_zero by_one first second =
    codes "writer 0: " ++ (decimal by_zero ++ (codes " in order\nwriter 1: " ++ (decimal by_one ++ (codes " in order\nreader 0: "
    ++ (decimal first ++ (codes " read\nreader 1: " ++ (decimal second ++ codes " read\n")))))))

-- the lines of what the two readers read, where each writer appended so many messages
pub record IsTally (count : ℕ) (first second : List (List ℕ)) (text : List ℕ) : Type 0 where
  pub by_zero : ℕ
  pub by_one : ℕ
  pub writer_zero : IsInOrderForBoth (messages_of 0 count) first second by_zero
  pub writer_one : IsInOrderForBoth (messages_of 1 count) first second by_one
  pub spelled : text ≡ tally_text by_zero by_one (length first) (length second)

-- the lines of a race in which each writer appended so many messages, and each reader read all of them
pub record IsRaceText (count : ℕ) (text : List ℕ) : Type 0 where
  pub first : List (List ℕ)
  pub second : List (List ℕ)
  pub first_all : length first ≡ 2 * count
  pub second_all : length second ≡ 2 * count
  pub tally : IsTally count first second text
