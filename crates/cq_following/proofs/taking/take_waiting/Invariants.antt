use Rattle.std.proofs.Common.{◌≤◌}
use Rattle.std.specs.Prelude.{IsTrue}
use Rattle.std.specs.Io.KnownBytes.{Keeps}
use Rattle.cq_folder.specs.Folder.{KeepsFiles}
use Rattle.cq_following.specs.Times.{HasCome, IsEndOf, looks_left}
use Rattle.cq_following.proofs.taking.take_waiting.Given as goal

-- nothing was found up to now, so no file changed and nothing was written
abbrev pub invariant-takes : goal.invariant-takes
invariant-takes g l = record {
  kept : KeepsFiles (g.F.Folder.files l.fn.folder) (g.F.Folder.files l.folder);
  unwritten : Keeps (g.W.Write.contents l.fn.output) (g.W.Write.contents l.output);
  later : g.F.Folder.failed l.fn.folder ≤ g.F.Folder.failed l.folder;
  given : IsEndOf l.settings.wait l.watch.end;
  over : IsTrue l.watch.is_over → HasCome l.watch.seen l.watch.end l.watch.looks;
}

-- one look less
abbrev pub decreases-takes : goal.decreases-takes
decreases-takes g l = looks_left l.watch.is_over l.watch.looks
