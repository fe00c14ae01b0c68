use Rattle.std.proofs.Common.{◌≡◌, take}
use Rattle.linnetshelf.specs.Many.{AppendsFront, InTurn, appending}
use Rattle.linnetshelf.proofs.appending_many.append_many.Given as goal

-- messages were appended in turn, and the bytes after them are left
abbrev pub invariant-loop-count : goal.invariant-loop-count
invariant-loop-count l = record {
  appended : InTurn (AppendsFront l.fn.endpoint.queue l.fn.moment) (appending l.fn.endpoint.work l.fn.bytes 0)
      (take l.count l.lengths) (appending l.endpoint.work l.rest l.last);
  stays : l.endpoint ≡ record l.fn.endpoint { work = l.endpoint.work };
}
