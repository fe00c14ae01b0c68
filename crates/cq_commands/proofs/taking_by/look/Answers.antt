use Rattle.std.proofs.Common.{ℕ, ◌≤◌, [], refl, subst, sym, true}
use Rattle.std.proofs.KnownBytes.{Appends-nil}
use Rattle.cq_commands.specs.Opened.{journal_with}
use Rattle.cq_commands.specs.TakenBy.{TakesAll}
use Rattle.cq_files.specs.Queue.{contents_in}
use Rattle.cq_files.proofs.CountLemmas.{counts_other, counts_passed}
use Rattle.cq_folder.specs.Folder.{KeepsFiles}
use Rattle.cq_commands.proofs.TakenLinesLemmas.{look_ended, look_failed, look_refused, look_unwritten, looked_at, name_not_old, nothing_by, takes_held, tells_took, took_lines}
use Rattle.cq_files.proofs.RefusingLemmas.{first_cause}
use Rattle.cq_commands.proofs.RefusingLemmas.{other_name}
use Rattle.cq_commands.proofs.taking_by.look.Given as given
use Rattle.cq_commands.proofs.taking_by.look.Goals as goal
use Rattle.cq_commands.proofs.taking_by.look.Goals.{After-end, In_ok-taken_for}

-- what there is to look at, or that there is nothing
takes : (g : given.Over) (c : In_ok-taken_for g)
    → TakesAll (journal_with c.in_ok-queue.queue.config (contents_in c.in_ok-queue.ensures.opened.queue)) c.args.name.now c.args.most c.in_ok-taken_for.field-0
takes g c = takes_held _ c.args.name.now c.args.most c.in_ok-queue.ensures.opened c.in_ok-queue.ensures.kept _ c.in_ok-taken_for.ensures.taken

-- no file changed, and no failure was lost
kept : (g : given.Over) (c : After-end g) → KeepsFiles (g.F.Folder.files c.args.folder.now) (g.F.Folder.files c.end.new.self)
kept g c = subst (KeepsFiles (g.F.Folder.files c.args.folder.now)) (sym c.end.ensures.kept) c.in_ok-queue.ensures.kept

later : (g : given.Over) (c : After-end g) → g.F.Folder.failed c.args.folder.now ≤ g.F.Folder.failed c.end.new.self
later g c = subst (λ (failed : ℕ). g.F.Folder.failed c.args.folder.now ≤ failed) (sym c.end.ensures.counted) c.in_ok-queue.ensures.counted.later

pub returns-in_err-queue : goal.returns-in_err-queue
returns-in_err-queue g c =
    let told = c.in_err-queue.ensures in
    let is = c.from_residual.ensures.1 in
    look_failed c.args.name.now c.args.most _ told.kept _ is (first_cause _ _ _ told.cause) told.unprinted (told.shared refl)
    (counts_passed _ _ _ _ told.counted is)

pub returns-in_err-taken_for : goal.returns-in_err-taken_for
returns-in_err-taken_for g c =
    let after = (goal.at.returns-in_err-taken_for g c).After-end in
    let why = c.in_err-taken_for.ensures.fault in
    let is = c.from_residual-in_err-taken_for.ensures.1 in
    let other = other_name c.in_ok-queue.queue.config c.args.name.now _ why in
    look_failed c.args.name.now c.args.most _ (kept g after) _ is (look_refused c.args.name.now c.in_ok-queue.ensures.opened _ why) other.0
    (name_not_old c.in_ok-queue.queue.config c.args.name.now _ why) (counts_other _ _ _ _ (later g after) other.1 is)

pub returns-in-None : goal.returns-in-None
returns-in-None g c =
    let after = (goal.at.returns-in-None g c).After-end in
    let output = g.W.Write.contents c.args.output.now in
    let none = subst (TakesAll _ c.args.name.now c.args.most) c.in-None.is (takes g (goal.at.returns-in-None g c).In_ok-taken_for) in
    let nothing = nothing_by _ c.args.name.now c.args.most c.in_ok-queue.ensures.opened (kept g after) true none in
    look_ended c.args.name.now c.args.most _ (kept g after) [] nothing (Appends-nil output) tt tt ([], nothing, Appends-nil output, refl)
    (look_unwritten c.args.name.now c.in_ok-queue.ensures.opened (none.place, none.named)) (later g after)

pub returns-in-Some : goal.returns-in-Some
returns-in-Some g c =
    let after = (goal.at.returns-in-Some g c).After-end in
    let told = c.print_lines.ensures in
    let some = subst (TakesAll _ c.args.name.now c.args.most) c.in-Some.is (takes g (goal.at.returns-in-Some g c).In_ok-taken_for) in
    let all = looked_at _ c.args.name.now c.args.most c.in_ok-queue.ensures.opened (kept g after) _ some _ c.as_slice.ensures.value in
    look_ended c.args.name.now c.args.most _ (kept g after) _ all told.written told.fault told.begun
    (tells_took _ _ _ _ _ all (took_lines _ c.args.name.now c.args.most c.in_ok-queue.ensures.opened (kept g after) _ some _ c.as_slice.ensures.value) told.written told.took)
    (look_unwritten c.args.name.now c.in_ok-queue.ensures.opened (some.place, some.named)) (later g after)
