use Rattle.std.proofs.Common.{ap, sym, ◌∙◌}
use Rattle.cq_folder.specs.declared.names.TheConstants.{CONFIG_FILE}
use Rattle.cq_folder.specs.Folder.{is_named}
use Rattle.cq_folder.proofs.NamedLemmas.{file_named, file_unnamed}
use Rattle.cq_file_commands.proofs.initialising.check_new.Goals as goal

pub returns-then-has_name-clause-fault : goal.returns-then-has_name-clause-fault
returns-then-has_name-clause-fault g c =
    file_named (g.F.Folder.files c.args.folder.now) c.in_ok-files.files.items CONFIG_FILE.now c.in_ok-files.ensures.listed
    (ap (λ names. is_named names CONFIG_FILE.now) (sym c.as_slice.ensures.value) ∙ sym c.has_name.ensures ∙ c.if-has_name.true)

pub returns-clause-new : goal.returns-clause-new
returns-clause-new g c =
    file_unnamed (g.F.Folder.files c.args.folder.now) c.in_ok-files.files.items CONFIG_FILE.now c.in_ok-files.ensures.listed
    (ap (λ names. is_named names CONFIG_FILE.now) (sym c.as_slice.ensures.value) ∙ sym c.has_name.ensures ∙ c.if-has_name.false)
