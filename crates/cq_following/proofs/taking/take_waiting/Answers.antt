use Rattle.std.proofs.Common.{ℕ, Option, arith, inl, inr, subst, sym, ◌∙◌}
use Rattle.std.proofs.KnownBytes.{Keeps-refl, Keeps-trans}
use Rattle.std.proofs.lemmas.Bool.{false≢true}
use Rattle.cq_files.proofs.CountLemmas.{counts_from}
use Rattle.cq_files.proofs.QueueLemmas.{keeps-refl, keeps-trans}
use Rattle.cq_following.specs.Times.{IsEndOf}
use Rattle.cq_following.proofs.LookLemmas.{look_used}
use Rattle.cq_following.proofs.WaitingLemmas.{nothing_taken}
use Rattle.cq_following.proofs.taking.take_waiting.Goals as goal

pub takes-init : goal.takes-init
takes-init g c = record {
  kept = keeps-refl _;
  unwritten = Keeps-refl _;
  later = omega arith;
  given = subst (λ (wait : Option ℕ). IsEndOf wait c.begin.new.self.end) (sym c.in-Some.is) c.begin.ensures.end;
  over = λ is. absurd (false≢true (sym c.begin.ensures.begun ∙ is));
}

pub takes-smaller : goal.takes-smaller
takes-smaller g c =
    look_used c.takes.watch.is_over c.wait.new.self.is_over c.takes.watch.looks c.wait.new.self.looks (sym c.is_over.ensures ∙ c.if-is_over.false)
    c.wait.ensures.fewer

pub takes-preserved : goal.takes-preserved
takes-preserved g c =
    let before = g.F.Folder.files c.args.folder.now in
    let files = g.F.Folder.files c.takes.folder in
    let after = g.F.Folder.files c.take_by-done.new.folder in
    let old = g.W.Write.contents c.args.output.now in
    let middle = g.W.Write.contents c.takes.output in
    let new = g.W.Write.contents c.take_by-done.new.output in
    let low = c.takes.invariant.later in
    let high = c.take_by-done.ensures.counted.later in
    let none = nothing_taken c.args.settings.now c.args.name.now files after middle new c.take_by-done.result
    (c.is_nothing.ensures.0 c.if-not-is_nothing.false) c.take_by-done.ensures.took in
    record {
      kept = keeps-trans before files after c.takes.invariant.kept none.0;
      unwritten = Keeps-trans old middle new c.takes.invariant.unwritten none.1;
      later = omega (arith, low, high);
      given = subst (IsEndOf c.args.settings.now.wait) (sym c.wait.ensures.end) c.takes.invariant.given;
      over = c.wait.ensures.over;
    }

pub returns-then-not-is_nothing-clause-kept : goal.returns-then-not-is_nothing-clause-kept
returns-then-not-is_nothing-clause-kept g c =
    λ peeks. keeps-trans (g.F.Folder.files c.args.folder.now) (g.F.Folder.files c.takes.folder) (g.F.Folder.files c.take_by-done.new.folder)
    c.takes.invariant.kept (c.take_by-done.ensures.kept peeks)

pub returns-then-is_over-clause-kept : goal.returns-then-is_over-clause-kept
returns-then-is_over-clause-kept g c =
    λ peeks. keeps-trans (g.F.Folder.files c.args.folder.now) (g.F.Folder.files c.takes.folder) (g.F.Folder.files c.take_by-done.new.folder)
    c.takes.invariant.kept (c.take_by-done.ensures.kept peeks)

pub returns-then-not-is_nothing-clause-last : goal.returns-then-not-is_nothing-clause-last
returns-then-not-is_nothing-clause-last g c =
    let done = c.take_by-done.ensures in
    record {
      files = g.F.Folder.files c.takes.folder;
      kept = c.takes.invariant.kept;
      output = g.W.Write.contents c.takes.output;
      unwritten = c.takes.invariant.unwritten;
      last = record { saved = done.saved; took = done.took; cause = done.cause; told = done.told; version = done.version };
    }

pub returns-then-not-is_nothing-clause-counted : goal.returns-then-not-is_nothing-clause-counted
returns-then-not-is_nothing-clause-counted g c =
    counts_from _ (g.F.Folder.failed c.takes.folder) _ c.take_by-done.result c.takes.invariant.later c.take_by-done.ensures.counted

pub returns-then-is_over-clause-last : goal.returns-then-is_over-clause-last
returns-then-is_over-clause-last g c =
    let done = c.take_by-done.ensures in
    record {
      files = g.F.Folder.files c.takes.folder;
      kept = c.takes.invariant.kept;
      output = g.W.Write.contents c.takes.output;
      unwritten = c.takes.invariant.unwritten;
      last = record { saved = done.saved; took = done.took; cause = done.cause; told = done.told; version = done.version };
    }

pub returns-then-is_over-clause-counted : goal.returns-then-is_over-clause-counted
returns-then-is_over-clause-counted g c =
    counts_from _ (g.F.Folder.failed c.takes.folder) _ c.take_by-done.result c.takes.invariant.later c.take_by-done.ensures.counted

pub returns-then-not-is_nothing-clause-nothing : goal.returns-then-not-is_nothing-clause-nothing
returns-then-not-is_nothing-clause-nothing g c =
    λ is. absurd (false≢true (sym c.if-not-is_nothing.true ∙ c.is_nothing.ensures.1 is))

pub returns-then-is_over-clause-nothing : goal.returns-then-is_over-clause-nothing
returns-then-is_over-clause-nothing g c =
    let over = sym c.is_over.ensures ∙ c.if-is_over.true in
    λ is. inr (over, record { given = c.takes.invariant.given; cause = c.takes.invariant.over over })

pub returns-in_default-clause-last : goal.returns-in_default-clause-last
returns-in_default-clause-last g c =
    let done = c.take_by.ensures in
    record {
      files = g.F.Folder.files c.args.folder.now;
      kept = keeps-refl _;
      output = g.W.Write.contents c.args.output.now;
      unwritten = Keeps-refl _;
      last = record { saved = done.saved; took = done.took; cause = done.cause; told = done.told; version = done.version };
    }

pub returns-in_default-clause-nothing : goal.returns-in_default-clause-nothing
returns-in_default-clause-nothing g c = λ _. inl c.in_default.is

pub returns-in_default-clause-kept : goal.returns-in_default-clause-kept
returns-in_default-clause-kept g c = c.take_by.ensures.kept

pub returns-in_default-clause-counted : goal.returns-in_default-clause-counted
returns-in_default-clause-counted g c = c.take_by.ensures.counted
