use Rattle.std.proofs.Common.{◌≡◌, map, string_bytes, take}
use Rattle.std.specs.Prelude.{All}
use Rattle.cq_model.specs.Settings.{texts}
use Rattle.cq_stat.specs.Facts.{left_from}
use Rattle.cq_stat.proofs.names.name_stats.Given as goal

-- what is said of the names so far
abbrev pub invariant-loop-i : goal.invariant-loop-i
invariant-loop-i l = record {
  names : map (λ stat. string_bytes stat.name) l.stats.items ≡ take l.i (texts l.names);
  positions : map (λ stat. stat.position) l.stats.items ≡ take l.i l.contents.positions;
  messages : All (λ stat. stat.messages_left ≡ left_from l.contents stat.position) l.stats.items;
}
