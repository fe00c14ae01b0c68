use Rattle.std.proofs.Common.{[], ◌≡◌, ◌∙◌, None, Some, ap, arith, sym}
use Rattle.std.proofs.lemmas.Str.Pattern.{split_after}
use Rattle.std.specs.Result.{result_ok}
use Rattle.cq_real_folder.proofs.PartLemmas.{is_parsed}
use Rattle.cq_real_folder.proofs.ReadLemmas.{after_form, form_line, left_is, process_cut, word_line}
use Rattle.cq_real_folder.proofs.record.parts_of.Goals as goal

pub returns-in_err-_form : goal.returns-in_err-_form
returns-in_err-_form c process names removed number spelled =
    let begins = c.in_ok-lines.ensures.cases in
    let left = left_is process names removed number c.args.text.now _ c.in_ok-lines.lines.now begins.1.1 begins.2 spelled in
    absurd (split_after 10 c.in_ok-lines.lines.now _ _ None c.in_err-_form.ensures.cases (omega arith) left (form_line process names removed number))

pub returns-in_err-word : goal.returns-in_err-word
returns-in_err-word c process names removed number spelled =
    let begins = c.in_ok-lines.ensures.cases in
    let left = left_is process names removed number c.args.text.now _ c.in_ok-lines.lines.now begins.1.1 begins.2 spelled in
    let after = after_form process names removed number c.in_ok-lines.lines.now c.in_ok-_form._form c.in_ok-_form.lines c.in_ok-_form.ensures.cases left in
    absurd (split_after 10 c.in_ok-_form.lines.now _ _ None c.in_err-word.ensures.cases (omega arith) after (word_line process names removed number))

pub returns-in_err-process : goal.returns-in_err-process
returns-in_err-process c process names removed number spelled =
    let begins = c.in_ok-lines.ensures.cases in
    let left = left_is process names removed number c.args.text.now _ c.in_ok-lines.lines.now begins.1.1 begins.2 spelled in
    let after = after_form process names removed number c.in_ok-lines.lines.now c.in_ok-_form._form c.in_ok-_form.lines c.in_ok-_form.ensures.cases left in
    let cut = process_cut process names removed number c.in_ok-_form.lines.now c.in_ok-word.word c.in_ok-word.names c.in_ok-word.ensures.cases after in
    let parsed = is_parsed [] process number _ c.parse.result cut.0 c.parse.ensures.value.0 in
    let clash : None ≡ Some process = sym (c.in_err-process.was) ∙ c.ok.ensures.value ∙ ap result_ok parsed in
    absurd (cc)

pub returns : goal.returns
returns c process names removed number spelled =
    let begins = c.in_ok-lines.ensures.cases in
    let left = left_is process names removed number c.args.text.now _ c.in_ok-lines.lines.now begins.1.1 begins.2 spelled in
    let after = after_form process names removed number c.in_ok-lines.lines.now c.in_ok-_form._form c.in_ok-_form.lines c.in_ok-_form.ensures.cases left in
    let cut = process_cut process names removed number c.in_ok-_form.lines.now c.in_ok-word.word c.in_ok-word.names c.in_ok-word.ensures.cases after in
    let parsed = is_parsed [] process number _ c.parse.result cut.0 c.parse.ensures.value.0 in
    let same : Some c.in_ok-process.process ≡ Some process = sym (c.in_ok-process.was) ∙ c.ok.ensures.value ∙ ap result_ok parsed in
    (cc, cut.1)
