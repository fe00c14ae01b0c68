use Rattle.std.proofs.Common.{◌≡◌, map, take}
use Rattle.std.specs.Prelude.{All}
use Rattle.cq_stat.specs.Facts.{IsNamed, facts_of}
use Rattle.cq_stat.proofs.cycles.cycle_stats.Given as goal

-- what is said of the cycles so far
abbrev pub invariant-loop-list : goal.invariant-loop-list
invariant-loop-list l = record {
  facts : map (λ cycle. cycle.facts) l.cycles.items ≡ map (facts_of l.config l.contents) (take l.list-index l.contents.lists);
  named : All (IsNamed l.config) l.cycles.items;
}
