use Rattle.std.proofs.Common.{sym}
use Rattle.cq_config_text.proofs.FaultLemmas.{lines_in}
use Rattle.cq_config_text.proofs.FloorLemmas.{fault_behind_floor, fault_of_last_line, fault_without_floor}
use Rattle.cq_config_text.proofs.lines.floor_line.Goals as goal

pub returns-in_err-line-clause-none : goal.returns-in_err-line-clause-none
returns-in_err-line-clause-none c =
    rw c.from_residual.ensures (fault_of_last_line c.args.text.now c.in_err-line.ensures.none)

pub returns-in_err-floor-clause-none : goal.returns-in_err-floor-clause-none
returns-in_err-floor-clause-none c =
    rw c.from_residual-in_err-floor.ensures
    (fault_without_floor c.args.text.now c.in_ok-line.line.now (lines_in c.in_ok-line.rest.now) c.in_ok-line.ensures.parts
    (sym c.in_err-floor.ensures.test))

pub returns-clause-next : goal.returns-clause-next
returns-clause-next c =
    fault_behind_floor c.args.text.now c.in_ok-line.line.now c.in_ok-line.rest.now c.in_ok-line.ensures.parts
    (sym c.in_ok-floor.ensures.test)
