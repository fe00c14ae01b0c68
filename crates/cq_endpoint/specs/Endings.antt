-- The end of a closed queue.
use Rattle.std.specs.Prelude.{true, ◌≡◌}
use Rattle.cq_model.specs.States.{NoneFrom}
use Rattle.cq_tail.specs.Tailers.{TailerFacts}
use Rattle.cq_words.specs.Views.{state_seen}

-- a tailer has come to the end of a closed queue: it knows of the seal, and has seen no message from its cursor on
pub record HasFinished (t : TailerFacts) : Type 0 where
  pub knows : t.caller.view.sealed ≡ true
  pub none : NoneFrom (state_seen t.caller.view) t.cursor
