-- The count of entries and the number of cycles that are chosen.
use Rattle.std.proofs.Common.{◌≡◌, ℕ, ◌<◌, ◌≤◌, ◌+◌, ◌*◌, ◌/◌, Bool, true, false, nat_le, max, min, refl, arith, if◌then◌else◌}
use lib.Count.{ones}
use Rattle.std.proofs.Math.Nat.{div-mul-le_self, mul-le-mul_left}
use Rattle.std.specs.Prelude.{IsTrue}
use Rattle.std.specs.Int.{is_power_of_two}
use Rattle.cq_model.proofs.TestLemmas.{le_is, not_le}
use Rattle.cq_new.specs.Made.{count_for, cycles_for}

pick : (test : Bool) (x y : ℕ) (P : ℕ → Type 0) → (test ≡ true → P x) → (test ≡ false → P y) → P (if test then x else y)
pick true x y P one other = one refl
pick false x y P one other = other refl

-- what holds of each count where it is taken holds of the count that is chosen
pub count-cases : (cells : ℕ) (P : ℕ → Type 0)
    → (cells ≤ 2048 → P 8) → (2048 < cells → cells ≤ 8192 → P 16) → (8192 < cells → cells ≤ 32768 → P 32)
    → (32768 < cells → cells ≤ 131072 → P 64) → (131072 < cells → cells ≤ 524288 → P 128) → (524288 < cells → P 256)
    → P (count_for cells)
count-cases cells P a b c d e f =
    pick (nat_le cells 2048) _ _ P (λ t. a (le_is cells 2048 t)) (λ t.
    pick (nat_le cells 8192) _ _ P (λ u. b (not_le cells 2048 t) (le_is cells 8192 u)) (λ u.
    pick (nat_le cells 32768) _ _ P (λ v. c (not_le cells 8192 u) (le_is cells 32768 v)) (λ v.
    pick (nat_le cells 131072) _ _ P (λ w. d (not_le cells 32768 v) (le_is cells 131072 w)) (λ w.
    pick (nat_le cells 524288) _ _ P (λ x. e (not_le cells 131072 w) (le_is cells 524288 x)) (λ x.
    f (not_le cells 524288 x))))))

-- the count is lawful where one is
pub record IsCount (cells count : ℕ) : Type 0 where
  pub power : IsTrue (is_power_of_two count)
  pub low : 8 ≤ count
  pub high : count ≤ 1024
  pub room : 13 + 2 * (1 + count) ≤ cells

pub count_lawful : (cells other : ℕ) → 8 ≤ other → 13 + 2 * (1 + other) ≤ cells → IsCount cells (count_for cells)
unfolding ones
count_lawful cells other eight room =
    count-cases cells (IsCount cells)
    (λ a. record { power = refl; low = omega arith; high = omega arith; room = omega arith })
    (λ a b. record { power = refl; low = omega arith; high = omega arith; room = omega arith })
    (λ a b. record { power = refl; low = omega arith; high = omega arith; room = omega arith })
    (λ a b. record { power = refl; low = omega arith; high = omega arith; room = omega arith })
    (λ a b. record { power = refl; low = omega arith; high = omega arith; room = omega arith })
    (λ a. record { power = refl; low = omega arith; high = omega arith; room = omega arith })

-- the number of cycles is lawful
pub record AreCycles (cells cycles : ℕ) : Type 0 where
  pub one : 1 ≤ cycles
  pub few : cycles ≤ 64
  pub all : cycles * cells ≤ 4194304

least : (n c : ℕ) → 1 ≤ c → c ≤ 4194304 → n * c ≤ 4194304 → AreCycles c (min 64 (max 1 n))
least n c one high all = record {
  one = grind arith;
  few = grind arith;
  all = let less : min 64 (max 1 n) * c ≤ max 1 n * c = grind (arith, mul-le-mul_left) in grind arith;
}

pub cycles_lawful : (cells : ℕ) → 1 ≤ cells → cells ≤ 4194304 → AreCycles cells (cycles_for cells)
cycles_lawful cells one high =
    let same : max 1 cells ≡ cells = grind arith in
    rw same (least (4194304 / cells) cells one high (div-mul-le_self 4194304 cells))
