use Rattle.cq_words.specs.Values.{IsOf}
use Rattle.cq_steps_tests.proofs.parts_tests.put_pieces.Given as goal

abbrev pub invariant-loop-piece : goal.invariant-loop-piece
invariant-loop-piece l = record {
  of : IsOf l.fn.queue l.writing.caller;
  can_next : (goal.iterator-loop-piece).can_next l.piece-iterator;
  is_finite : (goal.iterator-loop-piece).is_finite l.piece-iterator;
}
