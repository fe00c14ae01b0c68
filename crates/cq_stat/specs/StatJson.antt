-- What is said of a queue, as an object of JSON on one line.
use Rattle.std.specs.Prelude.{ℕ, List, [], ◌∷◌, ◌++◌, Bool, true, false, Option, None, Some, codes, string_bytes}
use Rattle.std.specs.Fmt.{decimal}
use Rattle.std.specs.List.{flat_map}
use Rattle.cq_layout.specs.Version.{version_of, version_word}
use Rattle.cq_layout.specs.declared.version.FolderVersion.{FolderVersion}
use Rattle.cq_cycle.specs.Index.{index_text}
use Rattle.cq_cycle.specs.RollWord.{roll_word}
use Rattle.cq_cycle.specs.declared.roll.Roll.{Roll}
use Rattle.cq_stat.specs.declared.facts.CycleStat.{CycleStat}
use Rattle.cq_stat.specs.declared.facts.CycleState.{CycleState}
use Rattle.cq_stat.specs.declared.facts.NameStat.{NameStat}
use Rattle.cq_stat.specs.declared.facts.QueueStat.{QueueStat}
use Rattle.cq_stat.specs.StatText.{lines_of, state_word}

-- the version, the roll and the epoch
unfoldable pub settings_json : FolderVersion → Roll → ℕ → List ℕ
settings_json version roll epoch =
    codes "{\"version\":" ++ (version_word version ++ (codes ",\"roll\":\"" ++ (roll_word roll
    ++ (codes "\",\"epoch\":" ++ decimal epoch))))

-- the measures of a cycle, and how many cycles may begin
unfoldable pub shape_json : ℕ → ℕ → ℕ → ℕ → List ℕ
shape_json cells count spacing cycles =
    codes ",\"cells\":" ++ (decimal cells ++ (codes ",\"count\":" ++ (decimal count
    ++ (codes ",\"spacing\":" ++ (decimal spacing ++ (codes ",\"cycles\":" ++ (decimal cycles ++ codes ",\"begun\":[")))))))

-- the name of a cycle, its number and its messages
unfoldable pub cycle_front : List ℕ → ℕ → ℕ → List ℕ
cycle_front name number messages =
    codes "{\"name\":\"" ++ (name ++ (codes "\",\"number\":" ++ (decimal number ++ (codes ",\"messages\":" ++ decimal messages))))

-- the bytes of its messages, its used and its left cells
unfoldable pub cycle_cells : ℕ → ℕ → ℕ → List ℕ
cycle_cells bytes used left =
    codes ",\"bytes\":" ++ (decimal bytes ++ (codes ",\"cells_used\":" ++ (decimal used ++ (codes ",\"cells_left\":" ++ decimal left))))

-- what becomes of it
unfoldable pub cycle_end : CycleState → List ℕ
cycle_end state = codes ",\"state\":\"" ++ (state_word state ++ codes "\"}")

-- a cycle
abbrev pub cycle_json : CycleStat → List ℕ
cycle_json cycle =
    cycle_front (string_bytes cycle.name) cycle.facts.number cycle.facts.messages
    ++ (cycle_cells cycle.facts.bytes cycle.facts.cells_used cycle.facts.cells_left ++ cycle_end cycle.facts.state)

-- a cycle after another one
abbrev pub more_cycles_json : CycleStat → List ℕ
more_cycles_json cycle = codes "," ++ cycle_json cycle

-- cycles, with a comma between them
abbrev pub cycles_json : List CycleStat → List ℕ
cycles_json [] = []
cycles_json (cycle ∷ cycles) = cycle_json cycle ++ flat_map more_cycles_json cycles

-- the end of the cycles, and the first index that is left
unfoldable pub first_json : Option ℕ → List ℕ
first_json None = codes "],\"first\":null"
first_json (Some index) = codes "],\"first\":\"" ++ (index_text index ++ codes "\"")

-- the floor, the end, how many cycles may still begin, and the beginning of the names
unfoldable pub end_json : ℕ → ℕ → ℕ → List ℕ
end_json floor end more_cycles =
    codes ",\"floor\":" ++ (decimal floor ++ (codes ",\"end\":\"" ++ (index_text end
    ++ (codes "\",\"more_cycles\":" ++ (decimal more_cycles ++ codes ",\"names\":[")))))

-- a name and its position
unfoldable pub name_front : List ℕ → ℕ → List ℕ
name_front name position =
    codes "{\"name\":\"" ++ (name ++ (codes "\",\"position\":\"" ++ (index_text position ++ codes "\"")))

-- how many messages are left for it
unfoldable pub name_end : ℕ → List ℕ
name_end left = codes ",\"messages_left\":" ++ (decimal left ++ codes "}")

-- a name
abbrev pub name_json : NameStat → List ℕ
name_json name = name_front (string_bytes name.name) name.position ++ name_end name.messages_left

-- a name after another one
abbrev pub more_names_json : NameStat → List ℕ
more_names_json name = codes "," ++ name_json name

-- names, with a comma between them
abbrev pub names_json : List NameStat → List ℕ
names_json [] = []
names_json (name ∷ names) = name_json name ++ flat_map more_names_json names

-- the object
abbrev pub json_of : QueueStat → List ℕ
json_of stat =
    settings_json (version_of stat.config.layout.store) stat.config.roll stat.config.epoch
    ++ (shape_json stat.config.layout.cells stat.config.layout.index_count stat.config.layout.index_spacing stat.config.cycles
    ++ (cycles_json stat.cycles.items
    ++ (first_json stat.first
    ++ (end_json stat.floor stat.end stat.more_cycles
    ++ (names_json stat.names.items ++ codes "]}\n")))))

-- the object, or lines
abbrev pub text_of : Bool → QueueStat → List ℕ
text_of true stat = json_of stat
text_of false stat = lines_of stat
