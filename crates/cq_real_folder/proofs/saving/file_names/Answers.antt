use Rattle.std.proofs.Common.{◌≡◌, ◌∙◌, ◌+◌, ◌++◌, ◌∷◌, ◌<◌, ◌≤◌, [], Global, List, String, ap, get_or, length, map, rules, string_bytes, sym, take, ℕ}
use Rattle.std.proofs.lemmas.List.{map_push, take_all, take_more}
use Rattle.cq_real_folder.specs.Record.{AreFileNames, IsNamingError}
use Rattle.cq_real_folder.proofs.NamingLemmas.{one_refused}
use Rattle.cq_real_folder.proofs.saving.file_names.Goals as goal

pub returns-in_err-push_file_name-clause-error : goal.returns-in_err-push_file_name-clause-error
returns-in_err-push_file_name-clause-error c =
    let given : List (String Global) = c.args.given.now in
    let i = c.loop-name.name-index in
    let name : String Global = c.name-item.result in
    let below : i < length given = search rules in
    let item : name ≡ get_or given i name = search rules in
    let error : IsNamingError (¬ AreFileNames given) c.in_err-push_file_name.field-0.0 =
    one_refused string_bytes given i name c.as_str.result.now (AreFileNames given) c.in_err-push_file_name.field-0.0 (λ all. all) below item
    c.as_str.ensures.value c.in_err-push_file_name.ensures.error in
    search rules

pub loop-name-preserved : goal.loop-name-preserved
loop-name-preserved c =
    let given : List (String Global) = c.args.given.now in
    let i = c.loop-name.name-index in
    let name : String Global = c.name-item.result in
    let below : i < length given = search rules in
    let item : name ≡ get_or given i name = search rules in
    let more : map string_bytes (take (i + 1) given) ≡ map string_bytes (take i given) ++ string_bytes name ∷ [] =
    ap (map string_bytes) (take_more given i name below ∙ ap (λ (next : String Global). take i given ++ next ∷ []) (sym item))
    ∙ map_push string_bytes (take i given) name in (
      c.in_ok-push_file_name.ensures.files c.loop-name.invariant.0,
      c.in_ok-push_file_name.ensures.name
          ∙ ap (λ (texts : List (List ℕ)). texts ++ c.as_str.result.now ∷ []) c.loop-name.invariant.1
          ∙ ap (λ (bytes : List ℕ). map string_bytes (take i given) ++ bytes ∷ []) c.as_str.ensures.value ∙ sym more,
    )

pub returns-clause-names : goal.returns-clause-names
returns-clause-names c =
    let given : List (String Global) = c.args.given.now in
    let past : length given ≤ c.loop-name.name-index = search rules in
    c.loop-name.invariant.1 ∙ ap (map string_bytes) (take_all c.loop-name.name-index given past)

pub returns-clause-files : goal.returns-clause-files
returns-clause-files c = c.loop-name.invariant.0
