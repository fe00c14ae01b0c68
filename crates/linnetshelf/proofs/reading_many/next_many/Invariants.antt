use Rattle.std.proofs.Common.{◌≡◌, ◌≤◌, [], drop, length, take}
use Rattle.linnetshelf.specs.Many.{InTurn, ReadsFront, reading}
use Rattle.linnetshelf.proofs.reading_many.next_many.Given as goal

-- messages were read in turn into the bytes before the end, and their answers are the first ones
abbrev pub invariant-loop-count : goal.invariant-loop-count
invariant-loop-count l = record {
  within : l.end ≤ length l.room;
  read : InTurn (ReadsFront l.fn.endpoint.queue) (reading l.fn.endpoint.tailer [] l.fn.room 0) (take l.count l.answers)
      (reading l.endpoint.tailer (take l.end l.room) (drop l.end l.room) l.last);
  others : drop l.count l.answers ≡ drop l.count l.fn.answers;
  stays : l.endpoint ≡ record l.fn.endpoint { tailer = l.endpoint.tailer };
}
