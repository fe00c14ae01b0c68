use Rattle.std.proofs.Common.{◌≡◌, map, take}
use Rattle.std.specs.Prelude.{All}
use Rattle.cq_forms.proofs.NameLemmas.{IsNamed}
use Rattle.cq_forms.proofs.names.cycle_names.Given as goal

-- the names of the cycles so far
abbrev pub invariant-loop-list : goal.invariant-loop-list
invariant-loop-list l = record {
  cycles : map (λ named. named.cycle) l.names.items ≡ map (λ list. list.cycle) (take l.list-index l.lists);
  named : All (IsNamed l.roll l.epoch) l.names.items;
}
