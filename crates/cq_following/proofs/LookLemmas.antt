-- When a time is over.
use Rattle.std.proofs.Common.{◌≡◌, ◌≤◌, ◌<◌, ◌∙◌, ℕ, Bool, Option, ap, arith, false, inl, inr}
use Rattle.cq_following.specs.Times.{HasCome, left_until, looks_left}

-- why a time is over, of a watch that has the same end and has seen the same
pub still_over : (end before seen then : Option ℕ) (looks between : ℕ) → end ≡ before → seen ≡ then → looks ≡ between
    → HasCome then before between → HasCome seen end looks
still_over end before seen then looks between same read count (inl come) =
    inl (ap (λ (o : Option ℕ). left_until o end) read ∙ ap (left_until then) same ∙ come)
still_over end before seen then looks between same read count (inr none) = inr (count ∙ none)

-- one look is used up by a wait
pub look_used : (over after : Bool) (looks left : ℕ) → over ≡ false → looks_left after left ≤ looks → looks_left after left < looks_left over looks
look_used over after looks left none fewer =
    let one_more : looks_left over looks ≡ looks_left false looks = ap (λ (o : Bool). looks_left o looks) none in
    omega (arith, one_more, fewer)
