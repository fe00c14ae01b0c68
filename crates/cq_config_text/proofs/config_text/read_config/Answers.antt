use Rattle.std.proofs.Common.{◌≡◌, None, Some, sym, ◌∙◌}
use Rattle.cq_model.specs.Settings.{texts}
use Rattle.cq_config_text.specs.Written.{settings_in}
use Rattle.cq_config_text.proofs.ConfigLemmas.{judged, text_at_no_fault, unread}
use Rattle.cq_config_text.proofs.config_text.read_config.Goals as goal

pub returns-in-Ok-clause-only : goal.returns-in-Ok-clause-only
returns-in-Ok-clause-only c =
    let read = c.in-Ok.read in
    judged (settings_in read.wanted (texts read.declared.names.items)) read.declared.positions.items read.floor
    c.args.text.now c.in-Ok.ensures.found c.within_limits.result c.within_limits.ensures.accepted
    c.within_limits.ensures.refused

pub returns-in-Ok-clause-faulty : goal.returns-in-Ok-clause-faulty
returns-in-Ok-clause-faulty c number faulty =
    let read = c.in-Ok.read in
    let none = text_at_no_fault (settings_in read.wanted (texts read.declared.names.items)) read.declared.positions.items
    read.floor c.args.text.now c.in-Ok.ensures.found in
    let clash : None ≡ Some number = sym none ∙ faulty in
    absurd (cc)

pub returns-in-Err-clause-only : goal.returns-in-Err-clause-only
returns-in-Err-clause-only c settings positions floor is =
    unread c.in-Err.fault settings positions floor c.args.text.now is c.in-Err.ensures.fault
