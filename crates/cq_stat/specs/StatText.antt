-- What is said of a queue, as lines of words with a space between them.
use Rattle.std.specs.Prelude.{ℕ, List, ◌++◌, Option, None, Some, codes, string_bytes}
use Rattle.std.specs.Fmt.{decimal}
use Rattle.std.specs.List.{flat_map}
use Rattle.cq_layout.specs.Version.{version_of, version_word}
use Rattle.cq_cycle.specs.Index.{index_text}
use Rattle.cq_cycle.specs.RollWord.{roll_word}
use Rattle.cq_model.specs.Settings.{Settings}
use Rattle.cq_stat.specs.declared.facts.CycleStat.{CycleStat}
use Rattle.cq_stat.specs.declared.facts.CycleState.{CycleState}
use Rattle.cq_stat.specs.declared.facts.CycleState.TheVariants.{Dropped, Ended, Open}
use Rattle.cq_stat.specs.declared.facts.NameStat.{NameStat}
use Rattle.cq_stat.specs.declared.facts.QueueStat.{QueueStat}

-- how it is called what becomes of a cycle
abbrev pub state_word : CycleState → List ℕ
state_word Dropped = codes "dropped"
state_word Ended = codes "ended"
state_word Open = codes "open"

-- the version, the roll and the epoch
abbrev pub settings_lines : Settings → List ℕ
settings_lines settings =
    codes "version " ++ (version_word (version_of settings.layout.store) ++ (codes "\nroll " ++ (roll_word settings.roll
    ++ (codes "\nepoch " ++ (decimal settings.epoch ++ codes "\n")))))

-- the measures of a cycle, and how many cycles may begin
abbrev pub shape_lines : Settings → List ℕ
shape_lines settings =
    codes "cells " ++ (decimal settings.layout.cells ++ (codes "\ncount " ++ (decimal settings.layout.index_count
    ++ (codes "\nspacing " ++ (decimal settings.layout.index_spacing
    ++ (codes "\ncycles " ++ (decimal settings.cycles ++ codes "\n")))))))

-- the name of a cycle, its number, messages, bytes of messages, used and left cells, and what becomes of it
abbrev pub cycle_line : CycleStat → List ℕ
cycle_line cycle =
    codes "cycle " ++ (string_bytes cycle.name ++ (codes " " ++ (decimal cycle.facts.number
    ++ (codes " " ++ (decimal cycle.facts.messages ++ (codes " " ++ (decimal cycle.facts.bytes
    ++ (codes " " ++ (decimal cycle.facts.cells_used ++ (codes " " ++ (decimal cycle.facts.cells_left
    ++ (codes " " ++ (state_word cycle.facts.state ++ codes "\n")))))))))))))

-- the first index that is left
abbrev pub first_line : Option ℕ → List ℕ
first_line None = codes "first none\n"
first_line (Some index) = codes "first " ++ (index_text index ++ codes "\n")

-- the floor, the end, and how many cycles may still begin
abbrev pub end_lines : ℕ → ℕ → ℕ → List ℕ
end_lines floor end more_cycles =
    codes "floor " ++ (decimal floor ++ (codes "\nend " ++ (index_text end
    ++ (codes "\nmore_cycles " ++ (decimal more_cycles ++ codes "\n")))))

-- a name, its position, and how many messages are left for it
abbrev pub name_line : NameStat → List ℕ
name_line name =
    codes "name " ++ (string_bytes name.name ++ (codes " " ++ (index_text name.position
    ++ (codes " " ++ (decimal name.messages_left ++ codes "\n")))))

-- all lines
abbrev pub lines_of : QueueStat → List ℕ
lines_of stat =
    settings_lines stat.config ++ (shape_lines stat.config ++ (flat_map cycle_line stat.cycles.items
    ++ (first_line stat.first ++ (end_lines stat.floor stat.end stat.more_cycles
    ++ flat_map name_line stat.names.items))))
