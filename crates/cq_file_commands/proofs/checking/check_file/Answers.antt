use Rattle.std.specs.Prelude.{IfSome, string_bytes}
use Rattle.cq_text.specs.declared.fault.ToolFault.TheVariants.{OutOfMemory}
use Rattle.cq_files.specs.FolderFaults.{HasCause, HasSettings, IsFileFault}
use Rattle.cq_text.proofs.FaultLemmas.{passed_on}
use Rattle.cq_files.proofs.CauseLemmas.{of_any}
use Rattle.cq_file_commands.proofs.checking.check_file.Goals as goal

pub returns-in_err-push_line-clause-fault : goal.returns-in_err-push_line-clause-fault
returns-in_err-push_line-clause-fault g c =
    passed_on _ (IsFileFault (string_bytes c.args.file.now.name)) OutOfMemory c.from_residual-in_err-push_line.ensures.1 tt

pub returns-in_err-push_line-clause-cause : goal.returns-in_err-push_line-clause-cause
returns-in_err-push_line-clause-cause g c =
    let before = g.F.Folder.files c.args.folder.now in
    passed_on _ (λ fault. IfSome before (λ files. HasSettings files c.args.config.now → HasCause files fault)) OutOfMemory
    c.from_residual-in_err-push_line.ensures.1 (of_any before _ (λ files has. tt))
