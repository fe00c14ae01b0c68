use Rattle.std.proofs.Common.{ℕ, ◌≤◌, ◌*◌, arith}
use Rattle.cq_new.proofs.CountLemmas.{count-cases}
use Rattle.cq_new.proofs.laws.the_index_has_room.Goals as goal

pub returns : goal.returns
returns c cells high =
    let P : ℕ → Type 0 = λ count. cells ≤ 2 * (count * (count * 16)) in
    count-cases cells P (λ a. omega arith) (λ a b. omega arith) (λ a b. omega arith) (λ a b. omega arith) (λ a b. omega arith)
    (λ a. omega arith)
