use Rattle.std.proofs.Common.{◌≡◌, map, string_bytes}
use Rattle.std.specs.Vec.Iter.{into_iter_items}
use Rattle.cq_folder.specs.Folder.{named_file}
use Rattle.cq_file_commands.specs.Migrated.{HoldsEither, IsWholeInEither, moved_file, moved_settings}
use Rattle.cq_files.proofs.ReadLemmas.{HaveRead}
use Rattle.cq_file_commands.proofs.migrating.move_images.Given as goal

-- the images of the files so far, and the same in version 2
abbrev pub invariant-loop-file : goal.invariant-loop-file
invariant-loop-file g l = record {
  read : HaveRead (HoldsEither l.config) (λ held file. IsWholeInEither held l.config (string_bytes file.name)) (moved_settings l.config).layout
      l.fn.files.items (g.F.Folder.files l.initial.folder) (g.F.Folder.failed l.initial.folder) (g.F.Folder.entered l.initial.folder) l.yielded
      (into_iter_items l.file-iterator) l.images.items (g.F.Folder.files l.folder) (g.F.Folder.failed l.folder) (g.F.Folder.entered l.folder);
  made : map named_file l.moved.items ≡ map (moved_file l.config) l.images.items;
}
