use Rattle.std.proofs.Common.{◌≡◌, ◌∙◌, ◌+◌, ◌++◌, ◌∷◌, ◌<◌, ◌≤◌, [], List, ap, get_or, length, map, rules, string_bytes, sym, take, ℕ}
use Rattle.std.proofs.lemmas.List.{map_push, take_all, take_more}
use Rattle.cq_folder.specs.declared.storage.NewFile.{NewFile}
use Rattle.cq_real_folder.specs.Record.{CanBeRecorded, IsNamingError}
use Rattle.cq_real_folder.proofs.NamingLemmas.{one_refused, removal_refused}
use Rattle.cq_real_folder.proofs.saving.record_of.Goals as goal

pub returns-in_err-push_file_name-clause-error : goal.returns-in_err-push_file_name-clause-error
returns-in_err-push_file_name-clause-error c =
    let changes : List NewFile = c.args.changes.now in
    let i = c.loop-file.file-index in
    let file : NewFile = c.file-item.result in
    let below : i < length changes = search rules in
    let item : file ≡ get_or changes i file = search rules in
    let error : IsNamingError (¬ CanBeRecorded changes c.args.removed.now) c.in_err-push_file_name.field-0.0 =
    one_refused (λ (file : NewFile). string_bytes file.name) changes i file c.as_str.result.now (CanBeRecorded changes c.args.removed.now)
    c.in_err-push_file_name.field-0.0 (λ can. can.0) below item c.as_str.ensures.value c.in_err-push_file_name.ensures.error in
    search rules

pub returns-in_err-removed-clause-error : goal.returns-in_err-removed-clause-error
returns-in_err-removed-clause-error c =
    let error : IsNamingError (¬ CanBeRecorded c.args.changes.now c.args.removed.now) c.in_err-removed.field-0.0 =
    removal_refused c.args.changes.now c.args.removed.now c.in_err-removed.field-0.0 c.in_err-removed.ensures.error in
    search rules

pub loop-file-preserved : goal.loop-file-preserved
loop-file-preserved c =
    let f : NewFile → List ℕ = λ file. string_bytes file.name in
    let changes : List NewFile = c.args.changes.now in
    let i = c.loop-file.file-index in
    let file : NewFile = c.file-item.result in
    let below : i < length changes = search rules in
    let item : file ≡ get_or changes i file = search rules in
    let more : map f (take (i + 1) changes) ≡ map f (take i changes) ++ string_bytes file.name ∷ [] =
    ap (map f) (take_more changes i file below ∙ ap (λ (next : NewFile). take i changes ++ next ∷ []) (sym item))
    ∙ map_push f (take i changes) file in (
      c.in_ok-push_file_name.ensures.files c.loop-file.invariant.0,
      c.in_ok-push_file_name.ensures.name
          ∙ ap (λ (texts : List (List ℕ)). texts ++ c.as_str.result.now ∷ []) c.loop-file.invariant.1
          ∙ ap (λ (bytes : List ℕ). map f (take i changes) ++ bytes ∷ []) c.as_str.ensures.value ∙ sym more,
    )

pub returns-clause-names : goal.returns-clause-names
returns-clause-names c =
    let changes : List NewFile = c.args.changes.now in
    let past : length changes ≤ c.loop-file.file-index = search rules in
    c.loop-file.invariant.1
    ∙ ap (map (λ (file : NewFile). string_bytes file.name)) (take_all c.loop-file.file-index changes past)

pub returns-clause-removed : goal.returns-clause-removed
returns-clause-removed c = c.in_ok-removed.ensures.names

pub returns-clause-files : goal.returns-clause-files
returns-clause-files c = c.loop-file.invariant.0

pub returns-clause-removals : goal.returns-clause-removals
returns-clause-removals c = c.in_ok-removed.ensures.files
