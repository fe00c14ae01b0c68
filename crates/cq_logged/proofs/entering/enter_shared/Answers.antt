use Rattle.std.proofs.Common.{◌≡◌, rules, subst, sym}
use Rattle.cq_fold.proofs.Halves.{passed_on}
use Rattle.cq_logged.specs.Faults.{IsEntryFault, IsLogFault, of_fold}
use Rattle.cq_logged.specs.declared.fault.EntryFault.{EntryFault}
use Rattle.cq_logged.specs.declared.lock.LogUse.TheVariants.{Free}
use Rattle.cq_logged.proofs.Entries.{counts_fold, not_folded, not_opened, shown_folded}
use Rattle.cq_logged.proofs.entering.enter_shared.Goals as goal

pub returns-in_err-files-in-Ok-clause-fault : goal.returns-in_err-files-in-Ok-clause-fault
returns-in_err-files-in-Ok-clause-fault g c =
    let files = g.F.Folder.files c.args.folder.now in
    let fault = c.in_err-files-in-Ok.field-0.0 in
    passed_on c.from_residual.result (IsEntryFault (IsLogFault files Free)) (of_fold fault)
    c.from_residual.ensures.1
    (not_folded Free files fault
    (c.in_err-files-in-Ok.ensures.cause files (record { opened = c.in-Ok.ensures.opened; kept = c.in-Ok.ensures.enters.kept })))

pub returns-in_err-files-in-Ok-clause-counted : goal.returns-in_err-files-in-Ok-clause-counted
returns-in_err-files-in-Ok-clause-counted g c =
    counts_fold _ (g.F.Folder.failed c.open_whole.new.folder) _ c.in_err-files-in-Ok.field-0.0 c.from_residual.result
    c.in-Ok.ensures.enters.counted.later c.in_err-files-in-Ok.ensures.stays.counted.later c.in_err-files-in-Ok.ensures.stays.counted.device
    c.from_residual.ensures.1

pub returns-in_ok-files-in-Ok-clause-shown : goal.returns-in_ok-files-in-Ok-clause-shown
returns-in_ok-files-in-Ok-clause-shown g c =
    let files = g.F.Folder.files c.args.folder.now in
    shown_folded files _ _ (record { messages = c.in_ok-files-in-Ok.field-0.messages; log_use = c.look-log_use.result }) (sym c.look-log_use.ensures)
    (c.in_ok-files-in-Ok.ensures.files files (record { opened = c.in-Ok.ensures.opened; kept = c.in-Ok.ensures.enters.kept }))

pub returns-in-Err-clause-fault : goal.returns-in-Err-clause-fault
returns-in-Err-clause-fault g c =
    let files = g.F.Folder.files c.args.folder.now in
    let is : c.from.result ≡ of_fold c.in-Err.fault = search rules in
    subst (λ (fault : EntryFault). IsEntryFault (IsLogFault files Free) fault) (sym is)
    (not_opened Free files c.in-Err.fault c.in-Err.ensures.cause)

pub returns-in-Err-clause-counted : goal.returns-in-Err-clause-counted
returns-in-Err-clause-counted g c =
    let is : c.from.result ≡ of_fold c.in-Err.fault = search rules in
    counts_fold _ (g.F.Folder.failed c.args.folder.now) _ c.in-Err.fault _ (search rules) c.in-Err.ensures.enters.counted.later
    c.in-Err.ensures.enters.counted.device is
