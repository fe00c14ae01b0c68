use Rattle.std.proofs.Common.{◌≡◌, ◌∙◌, ℕ, Global, List, subst, sym}
use Rattle.std.specs.Prelude.{Contains, Err, IfErr, IfOk, Ok, Result, String, string_bytes}
use Rattle.cq_model.specs.Settings.{Settings, texts}
use Rattle.cq_text.specs.declared.fault.ToolFault.{ToolFault}
use Rattle.cq_text.specs.declared.fault.ToolFault.TheVariants.{BadCycleName}
use Rattle.cq_files.specs.FolderFaults.{IsGivingFault}
use Rattle.cq_files.specs.Queue.{IsImageName}
use Rattle.cq_file_commands.specs.Shown.{IsGivenFile}
use Rattle.cq_files.specs.declared.opening.ImageFile.{ImageFile}
use Rattle.cq_folder.proofs.NamedLemmas.{named, unnamed}
use Rattle.cq_file_commands.proofs.given.given_file.Goals as goal

module _ (settings : Settings) (names : List (List ℕ)) (name : String Global) (file : List ℕ) (is : string_bytes name ≡ file)
    (listed : Contains names file) where
  -- a listed file whose name names a cycle
  gives : (result : Result ImageFile ToolFault) → IfOk result (λ image. IsImageName settings image.cycle (string_bytes image.name))
      → IfOk result (λ image. string_bytes image.name ≡ string_bytes name) → IfOk result (IsGivenFile settings names file)
  gives (Err fault) cycle same = tt
  gives (Ok image) cycle same =
      record { listed = listed; named = subst (IsImageName settings image.cycle) (same ∙ is) cycle; spelled = same ∙ is }

  -- and one whose name names none
  refuses : (result : Result ImageFile ToolFault)
      → IfErr result (λ fault. (fault ≡ BadCycleName name) × ((cycle : ℕ) → ¬ IsImageName settings cycle (string_bytes name)))
      → IfErr result (IsGivingFault settings names file)
  refuses (Ok image) bad = tt
  refuses (Err fault) bad = subst (IsGivingFault settings names file) (sym bad.0) (is, listed, bad.1)

pub returns-then-not-has_name-clause-fault : goal.returns-then-not-has_name-clause-fault
returns-then-not-has_name-clause-fault c =
    (c.in_ok-name.ensures.ok, unnamed c.args.image_names.now c.args.file.now (sym c.has_name.ensures ∙ c.if-not-has_name.true))

pub returns : goal.returns
returns c =
    let names = c.args.image_names.now in
    let file = c.args.file.now in
    let listed = named names file (sym c.has_name.ensures ∙ c.if-not-has_name.false) in
    let told = c.image_file.ensures in
    record {
      given = gives c.args.config.now (texts names) c.in_ok-name.name file c.in_ok-name.ensures.ok listed c.image_file.result told.named told.same;
      fault = refuses c.args.config.now (texts names) c.in_ok-name.name file c.in_ok-name.ensures.ok listed c.image_file.result told.bad;
    }
