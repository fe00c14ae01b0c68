-- Messages that stand in what was read in their order, and how many do so.
use Rattle.std.proofs.Common.{◌≡◌, ◌≢◌, ℕ, zero, suc, ◌+◌, ◌<◌, ◌≤◌, ◌⊎◌, List, [], ◌∷◌, ◌++◌, length, get_or, min, take, inl, inr, refl, sym, subst, arith, add-one}
use Rattle.std.proofs.Math.Seq.{take-suc}
use Rattle.cq_race.specs.Races.{IsInOrder, IsInOrderForBoth, IsWithin}

each : {A B C D : Type 0} → (A → C) → (B → D) → A ⊎ B → C ⊎ D
each f g (inl a) = inl (f a)
each f g (inr b) = inr (g b)

-- what stands in a list stands in a longer one
within-longer : (ms read more : List (List ℕ)) → IsWithin ms read → IsWithin ms (read ++ more)
within-longer [] read more within = tt
within-longer (m ∷ ms) [] more within = absurd within
within-longer (m ∷ ms) (n ∷ read) more within =
    each (λ here. (here.0, within-longer ms read more here.1)) (λ later. within-longer (m ∷ ms) read more later) within

-- and one more behind both
within-both : (ms read : List (List ℕ)) (m : List ℕ) → IsWithin ms read → IsWithin (ms ++ m ∷ []) (read ++ m ∷ [])
within-both [] [] m within = inl (refl, tt)
within-both [] (n ∷ read) m within = inr (within-both [] read m tt)
within-both (a ∷ ms) [] m within = absurd within
within-both (a ∷ ms) (n ∷ read) m within =
    each (λ here. (here.0, within-both ms read m here.1)) (λ later. within-both (a ∷ ms) read m later) within

none-within : (ms : List (List ℕ)) (m : List ℕ) → IsWithin (ms ++ m ∷ []) [] → ⊥
none-within [] m within = within
none-within (a ∷ ms) m within = within

-- the last one stands in what was read before, or is the last that was read
within-last : (ms : List (List ℕ)) (m : List ℕ) (read : List (List ℕ)) (n : List ℕ) → IsWithin (ms ++ m ∷ []) (read ++ n ∷ [])
    → IsWithin (ms ++ m ∷ []) read ⊎ ((m ≡ n) × IsWithin ms read)
within-last [] m [] n (inl here) = inr (here.0, tt)
within-last [] m [] n (inr none) = absurd none
within-last [] m (a ∷ read) n (inl here) = inl (inl (here.0, tt))
within-last [] m (a ∷ read) n (inr later) = each (λ old. inr old) (λ new. (new.0, tt)) (within-last [] m read n later)
within-last (b ∷ ms) m [] n (inl here) = absurd (none-within ms m here.1)
within-last (b ∷ ms) m [] n (inr none) = absurd none
within-last (b ∷ ms) m (a ∷ read) n (inl here) =
    each (λ old. inl (here.0, old)) (λ new. (new.0, inl (here.0, new.1))) (within-last ms m read n here.1)
within-last (b ∷ ms) m (a ∷ read) n (inr later) =
    each (λ old. inr old) (λ new. (new.0, inr new.1)) (within-last (b ∷ ms) m read n later)

-- so many messages at most stand in what was read up to here
most-behind : (ms read : List (List ℕ)) (count : ℕ) (m : List ℕ) → IsInOrder ms read count → (k : ℕ) → k < length ms
    → IsWithin (take k ms ++ get_or ms k [] ∷ []) read ⊎ ((get_or ms k [] ≡ m) × IsWithin (take k ms) read)
    → (suc k ≤ count) ⊎ ((get_or ms k [] ≡ m) × (k ≤ count))
most-behind ms read count m counted k low (inl old) =
    inl (counted.longest (suc k) low (subst (λ (l : List (List ℕ)). IsWithin l read) (sym (take-suc ms k [] low)) old))
most-behind ms read count m counted k low (inr new) = inr (new.0, counted.longest k (omega (arith, low)) new.1)

most : (ms read : List (List ℕ)) (count : ℕ) (m : List ℕ) → IsInOrder ms read count → (k : ℕ) → k < length ms
    → IsWithin (take (suc k) ms) (read ++ m ∷ []) → (suc k ≤ count) ⊎ ((get_or ms k [] ≡ m) × (k ≤ count))
most ms read count m counted k low within = most-behind ms read count m counted k low
    (within-last (take k ms) (get_or ms k []) read m
    (subst (λ (l : List (List ℕ)). IsWithin l (read ++ m ∷ [])) (take-suc ms k [] low) within))

one-more : (k count : ℕ) {P : Type 0} → (suc k ≤ count) ⊎ (P × (k ≤ count)) → suc k ≤ count + 1
one-more k count (inl low) = omega (arith, low)
one-more k count (inr low) = let e = low.1 in omega (arith, e)

no-more : (ms : List (List ℕ)) (k count : ℕ) (m : List ℕ) → k < length ms → (count < length ms → get_or ms count [] ≡ m → ⊥)
    → (suc k ≤ count) ⊎ ((get_or ms k [] ≡ m) × (k ≤ count)) → suc k ≤ count
no-more ms k count m low misses (inl less) = less
no-more ms k count m low misses (inr found) =
    let differs : k ≢ count
    = λ same. misses (subst (λ (n : ℕ). n < length ms) same low) (subst (λ (n : ℕ). get_or ms n [] ≡ m) same found.0) in
    let less = found.1 in
    omega (arith, less, differs)

longest-more : (ms read : List (List ℕ)) (count : ℕ) (m : List ℕ) → IsInOrder ms read count → (more : ℕ) → more ≤ length ms
    → IsWithin (take more ms) (read ++ m ∷ []) → more ≤ count + 1
longest-more ms read count m counted zero low within = omega arith
longest-more ms read count m counted (suc k) low within = one-more k count (most ms read count m counted k low within)

longest-same : (ms read : List (List ℕ)) (count : ℕ) (m : List ℕ) → IsInOrder ms read count
    → (count < length ms → get_or ms count [] ≡ m → ⊥) → (more : ℕ) → more ≤ length ms
    → IsWithin (take more ms) (read ++ m ∷ []) → more ≤ count
longest-same ms read count m counted misses zero low within = omega arith
longest-same ms read count m counted misses (suc k) low within =
    no-more ms k count m low misses (most ms read count m counted k low within)

-- the next message was read
pub counted-more : (ms read : List (List ℕ)) (count : ℕ) (m : List ℕ) → IsInOrder ms read count → count < length ms
    → get_or ms count [] ≡ m → IsInOrder ms (read ++ m ∷ []) (count + 1)
counted-more ms read count m counted low found = record {
  most = omega (arith, low);
  within = subst (λ (l : List (List ℕ)). IsWithin l (read ++ m ∷ []))
      (sym (rw (add-one, take-suc ms count [] low, found) refl)) (within-both (take count ms) read m counted.within);
  longest = longest-more ms read count m counted;
}

-- another one was read
pub counted-same : (ms read : List (List ℕ)) (count : ℕ) (m : List ℕ) → IsInOrder ms read count
    → (count < length ms → get_or ms count [] ≡ m → ⊥) → IsInOrder ms (read ++ m ∷ []) count
counted-same ms read count m counted misses = record {
  most = counted.most;
  within = within-longer (take count ms) read (m ∷ []) counted.within;
  longest = longest-same ms read count m counted misses;
}

take-shorter : (ms read : List (List ℕ)) (a b : ℕ) → a ≤ b → IsWithin (take b ms) read → IsWithin (take a ms) read
take-shorter ms read zero b low within = tt
take-shorter [] read (suc a) b low within = tt
take-shorter (m ∷ ms) read (suc a) zero low within = absurd (omega (arith, low))
take-shorter (m ∷ ms) [] (suc a) (suc b) low within = absurd within
take-shorter (m ∷ ms) (n ∷ read) (suc a) (suc b) low within =
    each (λ here. (here.0, take-shorter ms read a b (omega (arith, low)) here.1))
    (λ later. take-shorter (m ∷ ms) read (suc a) (suc b) low later) within

-- what both read is the lesser of what each did
pub both-counted : (ms first second : List (List ℕ)) (a b : ℕ) → IsInOrder ms first a → IsInOrder ms second b
    → IsInOrderForBoth ms first second (min a b)
both-counted ms first second a b one two =
    let low = one.most in
    record {
      most = omega (arith, low);
      in_first = take-shorter ms first (min a b) a (omega arith) one.within;
      in_second = take-shorter ms second (min a b) b (omega arith) two.within;
      longest = λ more within_all in_first in_second.
          let x = one.longest more within_all in_first in
          let y = two.longest more within_all in_second in
          omega (arith, x, y);
    }
