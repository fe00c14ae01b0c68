use Rattle.std.proofs.Common.{◌∙◌, List, arith, drop, refl, rules, subst, sym, take, take_all, ◌+◌}
use Rattle.std.specs.List.{AllByRecursion}
use Rattle.cq_folder.specs.Folder.{Files}
use Rattle.cq_files.specs.declared.opening.ImageFile.{ImageFile}
use Rattle.cq_files.specs.FolderFaults.{IsSmall}
use Rattle.cq_files.proofs.OrderLemmas.{image_first, none_so, one_more_so, one_parted, one_taken}
use Rattle.std.specs.Prelude.{Err, IfSome, string_bytes}
use Rattle.cq_files.proofs.CountLemmas.{counts_from}
use Rattle.cq_files.proofs.CauseLemmas.{looking_file, of_image}
use Rattle.cq_files.proofs.LookingLemmas.{looks_done, looks_passed}
use Rattle.cq_file_commands.proofs.CheckLemmas.{all_checked, one_checked}
use Rattle.cq_files.proofs.QueueLemmas.{keeps-trans}
use Rattle.cq_file_commands.proofs.checking.check_files.Goals as goal

pub loop-i-preserved : goal.loop-i-preserved
loop-i-preserved g c =
    let files = c.args.files.now in
    let Small : Files → ImageFile → Type 0 = λ held file. IsSmall held c.args.config.now (string_bytes file.name) in
    let before = g.F.Folder.files c.args.folder.now in
    let middle = g.F.Folder.files c.loop-i.folder in
    record {
      lines = one_checked before middle (g.F.Folder.files c.check_file.new.folder)
          c.args.config.now files c.loop-i.i c.index-files-i.result _ _ c.loop-i.is_faulty c.in_ok-is_faulty.field-0 _
          c.loop-i.invariant.lines c.loop-i-test.true c.index-files-i.is c.check_file.ensures.stays.kept
          c.in_ok-is_faulty.ensures.text c.in_ok-is_faulty.ensures.faulty refl;
      small = subst (λ (done : List ImageFile). IfSome before (λ held. AllByRecursion (Small held) done))
          (sym (one_taken files c.loop-i.i c.index-files-i.result c.loop-i-test.true c.index-files-i.is))
          (one_more_so before middle Small (take c.loop-i.i files) c.index-files-i.result c.loop-i.invariant.lines.kept c.loop-i.invariant.small
          c.in_ok-is_faulty.ensures.small);
      counted = omega (arith, c.loop-i.invariant.counted, c.check_file.ensures.stays.counted.later);
      inside = c.check_file.ensures.stays.inside ∙ c.loop-i.invariant.inside;
    }

pub loop-i-init : goal.loop-i-init
loop-i-init g c = record {
  lines = search rules;
  small = none_so (g.F.Folder.files c.args.folder.now) (λ held (file : ImageFile). IsSmall held c.args.config.now (string_bytes file.name));
  counted = omega arith;
  inside = refl;
}

pub returns-clause-text : goal.returns-clause-text
returns-clause-text g c =
    (all_checked (g.F.Folder.files c.args.folder.now) (g.F.Folder.files c.loop-i.folder) c.args.config.now c.args.files.now
    c.loop-i.i _ c.loop-i.is_faulty c.loop-i.invariant.lines c.loop-i-test.false).text_is

pub returns-clause-faulty : goal.returns-clause-faulty
returns-clause-faulty g c =
    (all_checked (g.F.Folder.files c.args.folder.now) (g.F.Folder.files c.loop-i.folder) c.args.config.now c.args.files.now
    c.loop-i.i (string_bytes c.loop-i.text) _ c.loop-i.invariant.lines c.loop-i-test.false).faulty_is

pub returns-clause-small : goal.returns-clause-small
returns-clause-small g c =
    let Small : Files → ImageFile → Type 0 = λ held file. IsSmall held c.args.config.now (string_bytes file.name) in
    subst (λ (done : List ImageFile). IfSome (g.F.Folder.files c.args.folder.now) (λ held. AllByRecursion (Small held) done))
    (take_all c.loop-i.i c.args.files.now c.loop-i-test.false) c.loop-i.invariant.small

pub returns-in_err-is_faulty-clause-looks : goal.returns-in_err-is_faulty-clause-looks
returns-in_err-is_faulty-clause-looks g c =
    let files = c.args.files.now in
    let file = c.index-files-i.result in
    let fault = c.in_err-is_faulty.field-0.0 in
    let told = c.in_err-is_faulty.ensures in
    let held = c.loop-i.invariant in
    looks_passed c.from_residual.ensures.1 (keeps-trans _ _ _ held.lines.kept told.stays.kept) (counts_from _ _ _ (Err fault) held.counted told.stays.counted)
    (looking_file (string_bytes file.name) fault told.fault)
    (image_first IsSmall _ _ c.args.config.now files (take c.loop-i.i files) (drop (c.loop-i.i + 1) files) file fault
    (one_parted files c.loop-i.i file c.loop-i-test.true c.index-files-i.is) held.lines.kept held.small (of_image (string_bytes file.name) fault told.fault)
    told.cause)

pub returns-clause-looks : goal.returns-clause-looks
returns-clause-looks g c = looks_done c.loop-i.invariant.lines.kept c.loop-i.invariant.counted
