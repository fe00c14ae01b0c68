use Rattle.std.proofs.Common.{◌≡◌, ◌≢◌, ◌≤◌, ◌∙◌, Bool, List, [], ℕ, ap, length, rules, subst, sym}
use Rattle.std.specs.Prelude.{Err, IfSome, IsSomeAnd, None, Option, Some}
use Rattle.cq_folder.specs.Folder.{Files}
use Rattle.cq_image.specs.Image.{AreNext, image_of}
use Rattle.cq_image.specs.Reading.{read_of}
use Rattle.cq_text.specs.DumpText.{dump_of}
use Rattle.cq_text.specs.Faults.{IsDeviceFault}
use Rattle.cq_text.specs.declared.fault.ToolFault.{ToolFault}
use Rattle.cq_text.specs.declared.fault.ToolFault.TheVariants.{FaultyImage, OutOfMemory, WriteFault}
use Rattle.cq_file_commands.specs.Dumped.{IsDumped}
use Rattle.cq_files.specs.FolderFaults.{HasCause, HoldsFault, IsImageFault, IsReadingFault}
use Rattle.cq_file_commands.specs.Shown.{IsGiven}
use Rattle.cq_files.specs.declared.files.TheConstants.{MOST_FILE_BYTES}
use Rattle.cq_file_commands.specs.declared.given.GivenImage.{GivenImage}
use Rattle.cq_files.proofs.CauseLemmas.{has_settings, of_image}
use Rattle.cq_file_commands.proofs.ShownLemmas.{ends_refused, ends_shown, ends_unread}
use Rattle.cq_file_commands.proofs.dumping.dump.Goals as goal

-- the lines of an image that is given are those of its file
is_dumped : (a : Option Files) (file text : List ℕ) (given : GivenImage) → IsGiven file a given
    → (messages : List (List ℕ)) × (ended : Bool) × AreNext given.saved.config.layout [] messages
    × (given.bytes.items ≡ image_of given.saved.config.layout given.image.cycle messages ended)
    × (text ≡ dump_of given.saved.config.layout given.image.cycle messages ended)
    → IfSome a (IsDumped given.saved.config file text)
is_dumped None file text given is_given found = tt
is_dumped (Some a) file text given is_given (messages, ended, next, image, lines) = record {
  cycle = given.image.cycle;
  messages = messages;
  ended = ended;
  named = is_given.image.named;
  next = next;
  held = is_given.held ∙ ap Some image;
  text_is = lines;
}

-- where it is none, its file is at fault
is_faulty : (a : Option Files) (file : List ℕ) (given : GivenImage) (fault : ToolFault) → IsGiven file a given
    → IsReadingFault given.saved.config.layout given.image given.bytes.items fault
    → IfSome a (λ files. IsImageFault file fault × HasCause files fault)
is_faulty None file given fault is_given why = tt
is_faulty (Some a) file given OutOfMemory is_given why = (tt, tt)
is_faulty (Some a) file given (FaultyImage name fault) is_given why =
    let spelled = why.0 ∙ is_given.image.spelled in
    let layout = given.saved.config.layout in (
      spelled,
      subst (λ (f : List ℕ). HoldsFault a f fault) (sym spelled) (record {
        settings = given.saved.config;
        configured = has_settings (Some a) is_given.opened;
        cycle = given.image.cycle;
        named = is_given.image.named;
        found = subst
            (λ (held : Option (List ℕ)). IsSomeAnd held (λ all. (length all ≤ MOST_FILE_BYTES) × (read_of layout given.image.cycle all ≡ Err fault)))
            (sym is_given.held)
            (is_given.small, why.1);
      }),
    )
is_faulty (Some a) file given _ is_given why = absurd why

-- which is no fault of the writer, and none of the device
other_fault : (given : GivenImage) (fault : ToolFault) → IsReadingFault given.saved.config.layout given.image given.bytes.items fault
    → (fault ≢ WriteFault) × ¬ IsDeviceFault fault
other_fault given OutOfMemory why = (search rules, λ device. device)
other_fault given (FaultyImage name fault) why = (search rules, λ device. device)
other_fault given _ why = absurd why

pub returns-in_err-given : goal.returns-in_err-given
returns-in_err-given g c =
    ends_unread IsImageFault IsDumped _ c.args.file.now (g.W.Write.contents c.args.output.now) c.from_residual.result
    c.from_residual.ensures.1 (of_image c.args.file.now _) c.in_err-given.ensures.looks

pub returns-in_err-text : goal.returns-in_err-text
returns-in_err-text g c =
    let given = c.in_ok-given.given in
    let told = c.in_ok-given.ensures in
    let before = g.F.Folder.files c.args.folder.now in
    ends_refused IsImageFault IsDumped before c.args.file.now told.given told.looks c.end.ensures.kept c.end.ensures.counted
    (g.W.Write.contents c.args.output.now)
    c.from_residual-in_err-text.result c.in_err-text.field-0.0 c.from_residual-in_err-text.ensures.1
    (other_fault given _ c.in_err-text.ensures.fault)
    (is_faulty before c.args.file.now given _ told.given c.in_err-text.ensures.fault)

pub returns : goal.returns
returns g c =
    let given = c.in_ok-given.given in
    let told = c.in_ok-given.ensures in
    let before = g.F.Folder.files c.args.folder.now in
    let wrote = c.print_outside.ensures in
    ends_shown IsImageFault IsDumped before c.args.file.now told.given told.looks c.end.ensures.kept c.end.ensures.counted
    _ _ c.print_outside.result c.as_slice.result.now
    (subst (λ (text : List ℕ). IfSome before (IsDumped given.saved.config c.args.file.now text)) (sym c.as_slice.ensures.value)
    (is_dumped before c.args.file.now _ given told.given c.in_ok-text.ensures.dumped))
    wrote.written wrote.fault wrote.begun
