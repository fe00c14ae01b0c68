use Rattle.std.proofs.Common.{◌≡◌, ◌∙◌, Bool, ap, inl, inr, sym}
use Rattle.std.proofs.lemmas.Result.{on_ok_weaker}
use Rattle.cq_layout.specs.Layout.{CycleLayout}
use Rattle.cq_layout.specs.Version.{is_current}
use Rattle.cq_layout.specs.declared.store_record.StoreVersion.{StoreVersion}
use Rattle.cq_model.specs.Settings.{Settings}
use Rattle.cq_files.proofs.CauseLemmas.{has_version}
use Rattle.cq_file_commands.proofs.MovingLemmas.{migrate_fault, tells_moved, was_moved}
use Rattle.cq_files.proofs.WritingLemmas.{in_any_case, left_after, still_kept}
use Rattle.cq_file_commands.proofs.migrating.migrate.Goals as goal

-- the answer on the version is one on that of the settings
asked : (settings : Settings) (layout : CycleLayout) (store : StoreVersion) (current : Bool) → layout ≡ settings.layout
    → store ≡ layout.store → current ≡ is_current store → is_current settings.layout.store ≡ current
asked settings layout store current layout_is store_is answer =
    sym (answer ∙ ap is_current (store_is ∙ ap (λ (l : CycleLayout). l.store) layout_is))

pub returns-clause-migrated : goal.returns-clause-migrated
returns-clause-migrated g c =
    let opened = c.in_ok-saved.ensures in
    let old = asked c.in_ok-saved.field-0.saved.config _ _ _ c.layout.ensures.value c.store.ensures.value c.is_current.ensures ∙ c.if-is_current.false in
    on_ok_weaker c.move_folder.result
    (λ moves. inr (was_moved _ opened.opened old opened.looks.kept (g.F.Folder.files c.move_folder.new.folder) moves))
    c.move_folder.ensures.moved

pub returns-clause-cause : goal.returns-clause-cause
returns-clause-cause g c =
    let opened = c.in_ok-saved.ensures in
    let old = asked c.in_ok-saved.field-0.saved.config _ _ _ c.layout.ensures.value c.store.ensures.value c.is_current.ensures ∙ c.if-is_current.false in
    migrate_fault _ opened.opened old opened.looks.kept c.move_folder.result c.move_folder.ensures.cause

pub returns-clause-left : goal.returns-clause-left
returns-clause-left g c =
    let opened = c.in_ok-saved.ensures in
    let old = asked c.in_ok-saved.field-0.saved.config _ _ _ c.layout.ensures.value c.store.ensures.value c.is_current.ensures ∙ c.if-is_current.false in
    left_after c.move_folder.result _ _ _ _ _ opened.looks.kept
    (was_moved _ opened.opened old opened.looks.kept (g.F.Folder.files c.move_folder.new.folder)) c.move_folder.ensures.left

pub returns-clause-told : goal.returns-clause-told
returns-clause-told g c =
    let opened = c.in_ok-saved.ensures in
    let old = asked c.in_ok-saved.field-0.saved.config _ _ _ c.layout.ensures.value c.store.ensures.value c.is_current.ensures ∙ c.if-is_current.false in
    tells_moved _ opened.opened old opened.looks.kept _ c.move_folder.result c.move_folder.ensures.told

pub returns-in_err-saved-clause-left : goal.returns-in_err-saved-clause-left
returns-in_err-saved-clause-left g c = still_kept c.from_residual.result _ _ _ c.open_folder.ensures.looks.kept

pub returns-then-is_current-clause-migrated : goal.returns-then-is_current-clause-migrated
returns-then-is_current-clause-migrated g c =
    inl (
      has_version (g.F.Folder.files c.args.folder.now) _ c.in_ok-saved.ensures.opened
          (asked c.in_ok-saved.field-0.saved.config _ _ _ c.layout.ensures.value c.store.ensures.value c.is_current.ensures ∙ c.if-is_current.true),
      c.open_folder.ensures.looks.kept,
    )

pub returns-in_err-saved-clause-told : goal.returns-in_err-saved-clause-told
returns-in_err-saved-clause-told g c = in_any_case c.from_residual.result _ _ c.open_folder.ensures.looks.kept

pub move_folder-requires-clause-inside : goal.move_folder-requires-clause-inside
move_folder-requires-clause-inside g c = c.in_ok-saved.ensures.inside
