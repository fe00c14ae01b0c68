use Rattle.std.proofs.Common.{◌≡◌, ◌+◌, false}
use Rattle.cq_following.proofs.watch.Watch.wait.Given as goal

-- it has waited once more, and goes on
abbrev pub invariant-pauses : goal.invariant-pauses
invariant-pauses g l = record {
  end : l.self.end ≡ l.fn.self.end;
  once : l.self.looks + 1 ≡ l.fn.self.looks;
  going : l.self.is_over ≡ false;
}
