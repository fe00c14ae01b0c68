use Rattle.std.proofs.Common.{◌∙◌, ◌++◌, ◌∷◌, [], All, Global, List, String, ap, map, string_bytes, subst, sym, ℕ}
use Rattle.std.proofs.lemmas.List.{map_push}
use Rattle.std.proofs.lemmas.List.Elements.{All-push}
use Rattle.cq_real_folder.specs.Record.{IsFileName}
use Rattle.cq_real_folder.proofs.saving.push_file_name.Goals as goal

pub returns-clause-name : goal.returns-clause-name
returns-clause-name c =
    let names = c.args.names.now.items in
    ap (map string_bytes) c.in_ok-push.ensures.items ∙ map_push string_bytes names c.in_ok-from_str.field-0
    ∙ ap (λ (bytes : List ℕ). map string_bytes names ++ bytes ∷ []) c.in_ok-from_str.ensures.ok

pub returns-clause-files : goal.returns-clause-files
returns-clause-files c are =
    let P : String Global → Type 0 = λ name. IsFileName (string_bytes name) in
    let names = c.args.names.now.items in
    let name = c.in_ok-from_str.field-0 in
    subst (All P) (sym {A = List (String Global)} c.in_ok-push.ensures.items)
    (All-push P names name are
    (subst IsFileName (sym c.in_ok-from_str.ensures.ok) (c.is_file_name.ensures.0 c.if-not-is_file_name.false)))
