use Rattle.cq_files.proofs.CauseLemmas.{of_any}
use Rattle.cq_files.proofs.LookingLemmas.{unread_scarce}
use Rattle.cq_files.proofs.files.read_file.Goals as goal

pub returns-in-Ok : goal.returns-in-Ok
returns-in-Ok g c =
    let read = c.read.ensures in
    record {
      held = c.in-Ok.ensures.found;
      small = c.in-Ok.ensures.small;
      fault = tt;
      cause = tt;
      stays = record { kept = read.kept; counted = record { later = read.counted.later; device = tt }; inside = read.inside };
    }

pub returns-in-Err-OutOfMemory : goal.returns-in-Err-OutOfMemory
returns-in-Err-OutOfMemory g c =
    let read = c.read.ensures in
    record {
      held = tt;
      small = tt;
      fault = tt;
      cause = of_any (g.F.Folder.files c.args.folder.now) _ (λ files there. tt);
      stays = record {
        kept = read.kept;
        counted = record { later = read.counted.later; device = λ device. absurd device };
        inside = read.inside;
      };
    }

pub returns-in_err-from_str-in-Err-Device : goal.returns-in_err-from_str-in-Err-Device
returns-in_err-from_str-in-Err-Device g c =
    let read = c.read.ensures in
    unread_scarce _ _ g.F.Folder.files g.F.Folder.failed g.F.Folder.entered c.args.folder.now c.read.new.self c.args.name.now
    c.from_residual.result c.from_residual.ensures.1 read.kept read.counted.later read.inside

pub returns-in_err-from_str-in-Err-TooLarge : goal.returns-in_err-from_str-in-Err-TooLarge
returns-in_err-from_str-in-Err-TooLarge g c =
    let read = c.read.ensures in
    unread_scarce _ _ g.F.Folder.files g.F.Folder.failed g.F.Folder.entered c.args.folder.now c.read.new.self c.args.name.now
    c.from_residual-in_err-from_str-in-Err-TooLarge.result c.from_residual-in_err-from_str-in-Err-TooLarge.ensures.1 read.kept
    read.counted.later read.inside
