use Rattle.std.proofs.Common.{◌∙◌, ◌++◌, ◌∷◌, [], ℕ, List, ap, arith, inl, map, subst}
use Rattle.std.proofs.lemmas.List.{map-append}
use Rattle.cq_model.specs.Settings.{texts}
use Rattle.cq_folder.specs.Folder.{named_file}
use Rattle.cq_files.specs.FolderFaults.{IsLimitFault, IsLookingFault}
use Rattle.cq_file_commands.specs.Migrated.{moved_settings}
use Rattle.cq_text.specs.declared.fault.ToolFault.TheVariants.{OutOfMemory}
use Rattle.cq_files.proofs.CountLemmas.{uncounted}
use Rattle.cq_files.proofs.LookingLemmas.{looks_anyway, looks_done, looks_passed}
use Rattle.cq_file_commands.proofs.MovingLemmas.{files_moved, images_not_moved, limits_need_no_device, names_not_moved}
use Rattle.cq_files.proofs.QueueLemmas.{keeps-refl}
use Rattle.cq_file_commands.proofs.migrating.moved_files.Goals as goal

pub returns-clause-moved : goal.returns-clause-moved
returns-clause-moved g c =
    let saved = c.args.saved.now in
    let images = c.in_ok-moved.moved.items in
    let file = c.in_ok-config_file.field-0 in
    files_moved (g.F.Folder.files c.args.folder.now) saved (texts c.args.image_names.items) c.in_ok-files.files.items
    (map named_file images) _ c.in_ok-config.config file.bytes.items c.in_ok-config.ensures.moved.0 c.in_ok-config.ensures.moved.1
    c.in_ok-files.ensures.named c.in_ok-files.ensures.same c.in_ok-moved.ensures.moved c.in_ok-config_file.ensures.text
    (ap (map named_file) c.in_ok-push.ensures.items ∙ map-append named_file images (file ∷ [])
    ∙ ap (λ (name : List ℕ). map named_file images ++ (name, file.bytes.items) ∷ []) c.in_ok-config_file.ensures.name)

pub returns-in_err-config-clause-looks : goal.returns-in_err-config-clause-looks
returns-in_err-config-clause-looks g c =
    let fault = c.in_err-config.field-0.0 in
    let why = c.in_err-config.ensures.fault in
    let settings = moved_settings c.args.saved.now.config in
    looks_anyway fault c.from_residual.ensures.1 (keeps-refl _) (omega arith) (limits_need_no_device settings fault why)
    (λ printed. subst (IsLimitFault settings) printed why) (λ files has lawful listed. inl why)

pub returns-in_err-files-clause-looks : goal.returns-in_err-files-clause-looks
returns-in_err-files-clause-looks g c =
    let told = c.in_err-files.ensures in
    looks_passed {T = ℕ} c.from_residual-in_err-files.ensures.1 (keeps-refl _) (uncounted (omega arith) told.device)
    (λ printed. subst IsLookingFault printed told.fault)
    (names_not_moved _ c.args.saved.now.config (texts c.args.image_names.items) _ c.in_ok-config.ensures.moved.1 told.cause told.first)

pub returns-in_err-moved-clause-looks : goal.returns-in_err-moved-clause-looks
returns-in_err-moved-clause-looks g c =
    let told = c.in_err-moved.ensures.looks in
    let files = c.in_ok-files.ensures in
    looks_passed c.from_residual-in_err-moved.ensures.1 told.kept told.counted told.fault
    (images_not_moved _ c.args.saved.now.config (texts c.args.image_names.items) c.in_ok-files.files.items _ c.in_ok-config.ensures.moved.1
    files.named files.same told.cause)

pub returns-in_err-config_file-clause-looks : goal.returns-in_err-config_file-clause-looks
returns-in_err-config_file-clause-looks g c =
    let looks = c.moved_images.ensures.looks in
    looks_anyway OutOfMemory c.from_residual-in_err-config_file.ensures.1 looks.kept looks.counted.later (λ device. device) (λ same. cc)
    (λ files has lawful listed. inl tt)

pub returns-in_err-push-clause-looks : goal.returns-in_err-push-clause-looks
returns-in_err-push-clause-looks g c =
    let looks = c.moved_images.ensures.looks in
    looks_anyway OutOfMemory c.from_residual-in_err-push.ensures.1 looks.kept looks.counted.later (λ device. device) (λ same. cc)
    (λ files has lawful listed. inl tt)

pub returns-clause-looks : goal.returns-clause-looks
returns-clause-looks g c = let looks = c.moved_images.ensures.looks in looks_done looks.kept looks.counted.later
