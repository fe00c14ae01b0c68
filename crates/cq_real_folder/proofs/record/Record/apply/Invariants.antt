use Rattle.std.proofs.Common.{◌≡◌, map, string_bytes, take}
use Rattle.cq_real_folder.specs.Record.{with_saved}
use Rattle.cq_real_folder.proofs.record.Record.apply.Given as goal

-- the files that are saved so far are listed
abbrev pub invariant-loop-name : goal.invariant-loop-name
invariant-loop-name l =
    map string_bytes l.names.items ≡ with_saved (map string_bytes l.fn.names.items) (map string_bytes (take l.name-index l.self.names.items))
