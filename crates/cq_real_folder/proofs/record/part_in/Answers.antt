use Rattle.std.proofs.Common.{◌≡◌, ◌∙◌, None, Some, ap, arith, sym}
use Rattle.std.proofs.lemmas.Str.Pattern.{rfind_char}
use Rattle.std.specs.Result.{result_ok}
use Rattle.cq_real_folder.proofs.PartLemmas.{file_is, front_is, front_part, has_dot, is_parsed, number_is, part_is, stem}
use Rattle.cq_real_folder.proofs.record.part_in.Goals as goal

pub returns-in_err-front : goal.returns-in_err-front
returns-in_err-front c file process number spelled =
    absurd (c.in_err-front.ensures.cases (stem file process) (spelled ∙ part_is file process))

pub returns-in_err-dot : goal.returns-in_err-dot
returns-in_err-dot c file process number spelled =
    let front = c.in_ok-front.front.now in
    let ending = c.in_ok-front.ensures.cases in
    let same = front_is c.args.name.now front _ file process ending.1.1 ending.2 spelled in
    absurd (has_dot file process number front same (rfind_char 46 front None c.in_err-dot.ensures.cases (omega arith)))

pub returns-in_err-process : goal.returns-in_err-process
returns-in_err-process c file process number spelled =
    let front = c.in_ok-front.front.now in
    let ending = c.in_ok-front.ensures.cases in
    let same = front_is c.args.name.now front _ file process ending.1.1 ending.2 spelled in
    let last = rfind_char 46 front (Some c.in_ok-dot.dot) c.in_ok-dot.ensures.cases (omega arith) in
    let word = number_is file process number front same c.in_ok-dot.dot last in
    let parsed = is_parsed file process number _ c.parse.result (c.range_from.ensures.value ∙ word) c.parse.ensures.value.0 in
    let clash : None ≡ Some process = sym (c.in_err-process.was) ∙ c.ok.ensures.value ∙ ap result_ok parsed in
    absurd (cc)

pub returns : goal.returns
returns c file process number spelled =
    let front = c.in_ok-front.front.now in
    let ending = c.in_ok-front.ensures.cases in
    let same = front_is c.args.name.now front _ file process ending.1.1 ending.2 spelled in
    let last = rfind_char 46 front (Some c.in_ok-dot.dot) c.in_ok-dot.ensures.cases (omega arith) in
    let word = number_is file process number front same c.in_ok-dot.dot last in
    let parsed = is_parsed file process number _ c.parse.result (c.range_from.ensures.value ∙ word) c.parse.ensures.value.0 in
    let same_number : Some c.in_ok-process.process ≡ Some process = sym (c.in_ok-process.was) ∙ c.ok.ensures.value ∙ ap result_ok parsed in
    (c.range.ensures.value ∙ front_part front c.in_ok-dot.dot ∙ file_is file process number front same c.in_ok-dot.dot last, cc)
