use Rattle.std.proofs.Common.{◌∙◌, ◌++◌, ◌∷◌, [], ap, arith, List, map, refl, subst, sym}
use Rattle.std.proofs.lemmas.List.{map-append}
use Rattle.std.specs.Prelude.{Err, IsSome, string_bytes}
use Rattle.std.specs.Vec.Iter.{into_iter_items}
use Rattle.cq_folder.specs.Folder.{NamedFile, named_file}
use Rattle.cq_text.specs.declared.fault.ToolFault.TheVariants.{OutOfMemory}
use Rattle.cq_files.specs.declared.opening.ImageFile.{ImageFile}
use Rattle.cq_file_commands.specs.Migrated.{moved_file}
use Rattle.cq_files.specs.Queue.{IsImageName}
use Rattle.cq_files.proofs.CauseLemmas.{one_of_images}
use Rattle.cq_files.proofs.CountLemmas.{counts_from}
use Rattle.cq_files.proofs.LookingLemmas.{looks_anyway, looks_done, looks_passed}
use Rattle.cq_file_commands.proofs.MovingLemmas.{first_not_moved}
use Rattle.cq_files.proofs.OrderLemmas.{next_so}
use Rattle.cq_files.proofs.QueueLemmas.{keeps-trans}
use Rattle.cq_files.proofs.ReadLemmas.{all_read, none_read, one_read, parted_at}
use Rattle.cq_file_commands.proofs.migrating.move_images.Goals as goal

pub loop-file-init : goal.loop-file-init
loop-file-init g c = rw c.new-images.ensures.items (rw c.new-moved.ensures.items (record {
  read = none_read c.into_iter-file-iterator.ensures.into_iter_gives.0;
  made = refl;
}))

pub loop-file-preserved : goal.loop-file-preserved
loop-file-preserved g c = rw c.in_ok-push_moved.ensures.images (rw c.in_ok-push_moved.ensures.moved (record {
  read = one_read c.loop-file.invariant.read _ c.in-Some.ensures.steps.0
      c.in_ok-read.ensures.file c.in_ok-read.ensures.fits c.in_ok-read.ensures.held c.in_ok-read.ensures.whole
      c.move_image.ensures.stays.kept c.move_image.ensures.stays.counted.later c.move_image.ensures.stays.inside;
  made = map-append named_file c.loop-file.moved.items (c.in_ok-read.read.made ∷ [])
      ∙ ap (λ (files : List NamedFile). files ++ named_file c.in_ok-read.read.made ∷ []) c.loop-file.invariant.made
      ∙ ap (λ (file : NamedFile). map (moved_file c.args.config.now) c.loop-file.images.items ++ file ∷ []) c.in_ok-read.ensures.made
      ∙ sym (map-append (moved_file c.args.config.now) c.loop-file.images.items (c.in_ok-read.read.image ∷ []));
}))

pub move_image-requires-clause-named : goal.move_image-requires-clause-named
move_image-requires-clause-named g c =
    next_so (λ (file : ImageFile). IsImageName c.args.config.now file.cycle (string_bytes file.name)) c.args.files.items c.loop-file.yielded
    (into_iter_items c.next.new.self) c.in-Some.file c.requires.named
    (parted_at c.loop-file.invariant.read c.in-Some.ensures.steps.0)

pub move_image-requires-clause-inside : goal.move_image-requires-clause-inside
move_image-requires-clause-inside g c = subst IsSome (sym c.loop-file.invariant.read.stays) c.requires.inside

pub returns-in_err-read-clause-looks : goal.returns-in_err-read-clause-looks
returns-in_err-read-clause-looks g c =
    let fault = c.in_err-read.field-0.0 in
    let told = c.in_err-read.ensures in
    let so_far = c.loop-file.invariant.read in
    looks_passed c.from_residual.ensures.1 (keeps-trans _ _ _ so_far.kept told.stays.kept) (counts_from _ _ _ (Err fault) so_far.counted told.stays.counted)
    (one_of_images _ fault told.fault)
    (first_not_moved _ _ c.args.config.now c.args.files.items c.loop-file.yielded (into_iter_items c.next.new.self) c.in-Some.file fault
    (parted_at so_far c.in-Some.ensures.steps.0) so_far.kept so_far.right told.fault told.cause)

pub returns-in_err-read-clause-inside : goal.returns-in_err-read-clause-inside
returns-in_err-read-clause-inside g c = c.move_image.ensures.stays.inside ∙ c.loop-file.invariant.read.stays

pub returns-in_err-push_moved-clause-looks : goal.returns-in_err-push_moved-clause-looks
returns-in_err-push_moved-clause-looks g c =
    let so_far = c.loop-file.invariant.read in
    let told = c.move_image.ensures in
    looks_anyway OutOfMemory c.from_residual-in_err-push_moved.ensures.1 (keeps-trans _ _ _ so_far.kept told.stays.kept)
    (omega (arith, so_far.counted, told.stays.counted.later)) (λ device. device) tt (λ held has lawful are. tt)

pub returns-in_err-push_moved-clause-inside : goal.returns-in_err-push_moved-clause-inside
returns-in_err-push_moved-clause-inside g c = c.move_image.ensures.stays.inside ∙ c.loop-file.invariant.read.stays

pub returns : goal.returns
returns g c =
    let read = c.loop-file.invariant.read in
    record {
      files = all_read read (omega (arith, c.in-None.ensures.steps.0));
      made = c.loop-file.invariant.made;
      fit = read.fit;
      held = read.held;
      looks = looks_done read.kept read.counted;
      inside = read.stays;
    }
