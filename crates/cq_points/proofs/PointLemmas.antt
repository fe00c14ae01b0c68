-- Which index a word means, and why it means none.
use Rattle.std.proofs.Common.{◌≡◌, ◌<◌, ◌^◌, ℕ, List, subst, sym}
use Rattle.std.specs.Prelude.{⊤, Option, None, Some, MatchOption}
use Rattle.cq_cycle.specs.Index.{index_text}
use Rattle.cq_cycle.specs.Name.{NamesNoCycle}
use Rattle.cq_cycle.specs.declared.roll.Roll.{Roll}
use Rattle.cq_text.specs.declared.fault.ToolFault.{ToolFault}
use Rattle.cq_text.specs.declared.fault.ToolFault.TheVariants.{BadIndex}
use Rattle.cq_points.specs.Points.{IsPointFault, SpellsMoment}

-- nothing is not something
no_some : {X : Type 0} (x : X) → None ≡ Some x → ⊥
no_some {X} x e = subst (λ (o : Option X). MatchOption o ⊤ (λ some. ⊥)) e tt

-- a word that is no index, no moment and no name means no index
pub means_none : (roll : Roll) (epoch : ℕ) (word : List ℕ) (fault : ToolFault)
    → ((index : ℕ) → index < 2 ^ 64 → word ≡ index_text index → None ≡ Some index)
    → ((moment : ℕ) → SpellsMoment word moment → None ≡ Some moment)
    → fault ≡ BadIndex → NamesNoCycle roll epoch word → IsPointFault roll epoch word fault
means_none roll epoch word fault index moment is unnamed =
    subst (IsPointFault roll epoch word) (sym is) (record {
      no_index = λ i below is. no_some i (index i below is);
      no_moment = λ m told. no_some m (moment m told);
      no_name = unnamed;
    })
