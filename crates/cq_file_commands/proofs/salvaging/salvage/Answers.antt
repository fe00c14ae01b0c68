use Rattle.std.proofs.Common.{◌≡◌, ◌≤◌, List, ℕ, length, rules, subst, sym}
use Rattle.std.specs.Prelude.{IfSome, IsSomeAnd, None, Option, Some}
use Rattle.cq_folder.specs.Folder.{Files}
use Rattle.cq_image.specs.Salvage.{salvage_of}
use Rattle.cq_text.specs.SalvageText.{saved_text}
use Rattle.cq_text.specs.declared.fault.ToolFault.TheVariants.{OutOfMemory}
use Rattle.cq_files.specs.FolderFaults.{IsFileFault}
use Rattle.cq_file_commands.specs.Salvaged.{IsSalvaged}
use Rattle.cq_file_commands.specs.Shown.{IsGiven}
use Rattle.cq_files.specs.declared.files.TheConstants.{MOST_FILE_BYTES}
use Rattle.cq_file_commands.specs.declared.given.GivenImage.{GivenImage}
use Rattle.cq_files.proofs.CauseLemmas.{of_any}
use Rattle.cq_file_commands.proofs.ShownLemmas.{ends_refused, ends_shown, ends_unread}
use Rattle.cq_file_commands.proofs.salvaging.salvage.Goals as goal

-- the lines of what is saved of an image that is given are those of its file
is_salvaged : (a : Option Files) (file text : List ℕ) (given : GivenImage) → IsGiven file a given
    → text ≡ saved_text (salvage_of given.saved.config.layout given.image.cycle given.bytes.items)
    → IfSome a (IsSalvaged given.saved.config file text)
is_salvaged None file text given is_given lines = tt
is_salvaged (Some a) file text given is_given lines = record {
  cycle = given.image.cycle;
  named = is_given.image.named;
  saved = subst
      (λ (found : Option (List ℕ)). IsSomeAnd found (λ read. (length read ≤ MOST_FILE_BYTES)
      × (text ≡ saved_text (salvage_of given.saved.config.layout given.image.cycle read))))
      (sym is_given.held)
      (is_given.small, lines);
}

pub returns-in_err-given : goal.returns-in_err-given
returns-in_err-given g c =
    ends_unread IsFileFault IsSalvaged _ c.args.file.now (g.W.Write.contents c.args.output.now) c.from_residual.result
    c.from_residual.ensures.1 (λ fault. fault) c.in_err-given.ensures.looks

pub returns-in_err-text : goal.returns-in_err-text
returns-in_err-text g c =
    let given = c.in_ok-given.given in
    let told = c.in_ok-given.ensures in
    let before = g.F.Folder.files c.args.folder.now in
    ends_refused IsFileFault IsSalvaged before c.args.file.now told.given told.looks c.end.ensures.kept c.end.ensures.counted
    (g.W.Write.contents c.args.output.now)
    c.from_residual-in_err-text.result OutOfMemory c.from_residual-in_err-text.ensures.1
    (search rules, λ device. device)
    (of_any before _ (λ files. (tt, tt)))

pub returns : goal.returns
returns g c =
    let given = c.in_ok-given.given in
    let told = c.in_ok-given.ensures in
    let before = g.F.Folder.files c.args.folder.now in
    let wrote = c.print_outside.ensures in
    ends_shown IsFileFault IsSalvaged before c.args.file.now told.given told.looks c.end.ensures.kept c.end.ensures.counted
    _ _ c.print_outside.result c.as_slice.result.now
    (subst (λ (text : List ℕ). IfSome before (IsSalvaged given.saved.config c.args.file.now text)) (sym c.as_slice.ensures.value)
    (is_salvaged before c.args.file.now _ given told.given c.in_ok-text.ensures))
    wrote.written wrote.fault wrote.begun
