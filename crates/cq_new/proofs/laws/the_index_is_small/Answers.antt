use Rattle.std.proofs.Common.{◌≡◌, ◌⊎◌, ℕ, ◌<◌, ◌*◌, ◌/◌, arith, refl, inl, inr}
use Rattle.cq_new.proofs.CountLemmas.{count-cases}
use Rattle.cq_new.proofs.laws.the_index_is_small.Goals as goal

pub returns : goal.returns
returns c cells =
    let P : ℕ → Type 0 = λ count. (count ≡ 8) ⊎ (2 * ((count / 2) * ((count / 2) * 16)) < cells) in
    count-cases cells P (λ a. inl refl) (λ a b. inr (omega arith)) (λ a b. inr (omega arith)) (λ a b. inr (omega arith))
    (λ a b. inr (omega arith)) (λ a. inr (omega arith))
