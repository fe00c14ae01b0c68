use Rattle.std.proofs.Common.{◌≡◌, ◌*◌, ◌≤◌, ◌^◌, sum_by, take}
use Rattle.cq_stat.specs.Facts.{left_in}
use Rattle.cq_stat.proofs.names.messages_from.Given as goal

-- the messages so far, of cycles that have at most 2^28
abbrev pub invariant-loop-list : goal.invariant-loop-list
invariant-loop-list l = (l.total ≡ sum_by (left_in l.place) (take l.list-index l.lists)) × (l.total ≤ l.list-index * 2 ^ 28)
