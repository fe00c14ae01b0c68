use Rattle.std.proofs.Common.{◌≡◌, rules}
use Rattle.cq_text.specs.declared.fault.ToolFault.TheVariants.{BadContents, OldVersion, WriteFault}
use Rattle.cq_files.specs.Queue.{CanBeOpened}
use Rattle.cq_files.proofs.CauseLemmas.{current_minded}
use Rattle.cq_files.proofs.OpenLemmas.{bad_contents, unopened}
use Rattle.cq_files.proofs.QueueLemmas.{whole_contents}
use Rattle.cq_files.proofs.openable.open_whole_queue.Goals as goal

pub returns-in_err-queue : goal.returns-in_err-queue
returns-in_err-queue g c =
    let told = c.in_err-queue.ensures in
    unopened _ _ _ _ c.from_residual.result c.from_residual.ensures.1 told.cause told.unprinted told.version told.shared told.kept told.counted

pub returns-then-not-can_be_opened : goal.returns-then-not-can_be_opened
returns-then-not-can_be_opened g c =
    let queue = c.in_ok-queue.queue in
    let read = c.in_ok-queue.ensures in
    let bad : ¬ CanBeOpened queue.config queue.contents = search rules in
    record {
      opened = tt;
      cause = bad_contents (g.F.Folder.files c.args.folder.now) queue read.lawful read.held (whole_contents queue read.lists) bad;
      unprinted = λ same. let e : BadContents ≡ WriteFault = same in cc;
      version = λ alone. current_minded _ BadContents (read.version alone);
      shared = λ shared same. let e : BadContents ≡ OldVersion = same in cc;
      kept = read.kept;
      counted = record { later = read.counted.later; device = λ device. absurd device };
      inside = tt;
    }

pub returns : goal.returns
returns g c =
    let queue = c.in_ok-queue.queue in
    let read = c.in_ok-queue.ensures in
    let can : CanBeOpened queue.config queue.contents = search rules in
    record {
      opened = record { lawful = read.lawful; held = read.held; whole = whole_contents queue read.lists; openable = can };
      cause = tt;
      unprinted = tt;
      version = read.version;
      shared = λ shared. tt;
      kept = read.kept;
      counted = record { later = read.counted.later; device = tt };
      inside = read.inside;
    }
