use Rattle.std.proofs.Common.{◌≡◌, ℕ, ◌≤◌, Bool, List, false, inl, refl, rules, subst, sym, true}
use Rattle.std.specs.Prelude.{string_bytes}
use Rattle.std.proofs.KnownBytes.{Keeps-refl}
use Rattle.cq_folder.specs.Folder.{KeepsFiles}
use Rattle.cq_text.specs.declared.fault.ToolFault.TheVariants.{ImagesAtFault, WriteFault}
use Rattle.cq_file_commands.specs.CheckText.{IsChecked}
use Rattle.cq_file_commands.specs.FileFaults.{IsCheckFault}
use Rattle.cq_files.proofs.CauseLemmas.{of_any}
use Rattle.cq_file_commands.proofs.CheckLemmas.{unchecked, unwritten_check}
use Rattle.cq_file_commands.proofs.checking.check.Given as given
use Rattle.cq_file_commands.proofs.checking.check.Goals as goal
use Rattle.cq_file_commands.proofs.checking.check.Goals.{After-print_outside}

-- the text that is written, and what it says of the images
shown : (g : given.Over) (c : After-print_outside g) (faulty : Bool) → c.in_ok-checked.checked.is_faulty ≡ faulty
    → IsChecked (g.F.Folder.files c.args.folder.now) c.as_bytes.result.now faulty
shown g c faulty is =
    let before = g.F.Folder.files c.args.folder.now in
    subst (λ (text : List ℕ). IsChecked before text faulty) (sym c.as_bytes.ensures.value)
    (subst (λ (b : Bool). IsChecked before (string_bytes c.in_ok-checked.checked.text) b) is c.in_ok-checked.ensures.checked)

-- the files, and the count of failures, are those that the look at the images left
kept : (g : given.Over) (c : After-print_outside g) → KeepsFiles (g.F.Folder.files c.args.folder.now) (g.F.Folder.files c.end.new.self)
kept g c = subst (KeepsFiles (g.F.Folder.files c.args.folder.now)) (sym c.end.ensures.kept) c.in_ok-checked.ensures.looks.kept

later : (g : given.Over) (c : After-print_outside g) → g.F.Folder.failed c.args.folder.now ≤ g.F.Folder.failed c.end.new.self
later g c = subst (λ (n : ℕ). g.F.Folder.failed c.args.folder.now ≤ n) (sym c.end.ensures.counted) c.in_ok-checked.ensures.looks.counted.later

pub returns-in_err-checked : goal.returns-in_err-checked
returns-in_err-checked g c =
    unchecked _ _ _ _ c.from_residual.result c.from_residual.ensures.1 c.in_err-checked.ensures.looks
    (Keeps-refl (g.W.Write.contents c.args.output.now))

pub returns-in_err-print_outside : goal.returns-in_err-print_outside
returns-in_err-print_outside g c =
    let at = (goal.at.returns-in_err-print_outside g c).After-print_outside in
    let told = c.in_err-print_outside.ensures in
    unwritten_check _ _ _ _ c.from_residual-in_err-print_outside.result c.as_bytes.result.now c.in_ok-checked.checked.is_faulty
    c.from_residual-in_err-print_outside.ensures.1 told.fault (shown g at _ refl) told.begun (kept g at) (later g at)

pub returns-then-checked : goal.returns-then-checked
returns-then-checked g c =
    let at = (goal.at.returns-then-checked g c).After-print_outside in
    record {
      printed = tt;
      at_fault = λ _. (c.as_bytes.result.now, shown g at true c.if-checked.true, c.in_ok-print_outside.ensures.written);
      cause = of_any (g.F.Folder.files c.args.folder.now) (λ files. IsCheckFault files ImagesAtFault) (λ files. inl refl);
      kept = kept g at;
      silent = λ unwritten other. absurd (other refl);
      broken = λ same. absurd (let e : ImagesAtFault ≡ WriteFault = same in cc);
      counted = record { later = later g at; device = λ device. absurd device };
    }

pub returns : goal.returns
returns g c =
    let at = (goal.at.returns g c).After-print_outside in
    record {
      printed = (c.as_bytes.result.now, shown g at false c.if-checked.false, c.in_ok-print_outside.ensures.written);
      at_fault = tt;
      cause = tt;
      kept = kept g at;
      silent = tt;
      broken = tt;
      counted = record { later = later g at; device = tt };
    }

pub print_outside-requires : goal.print_outside-requires
print_outside-requires g c = search rules
