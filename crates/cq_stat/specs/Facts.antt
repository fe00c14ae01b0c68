-- What is said of a queue.
use Rattle.std.specs.Prelude.{◌≡◌, ℕ, ◌+◌, ◌-◌, ◌==◌, nat_le, nat_lt, if◌then◌else◌, All, filter, length, map, sum, Option, option_map, string_bytes}
use Rattle.cq_cycle.specs.Index.{index_of}
use Rattle.cq_files.specs.Queue.{contents_from}
use Rattle.cq_cycle.specs.Name.{IsName}
use Rattle.cq_layout.specs.Room.{needs}
use Rattle.cq_model.specs.Finds.{first_in}
use Rattle.cq_model.specs.Settings.{Settings}
use Rattle.cq_model.specs.States.{end_of, last_cycle}
use Rattle.cq_model.specs.declared.contents.Contents.{Contents}
use Rattle.cq_model.specs.declared.contents.CycleList.{CycleList}
use Rattle.cq_stat.specs.declared.facts.CycleFacts.{CycleFacts}
use Rattle.cq_stat.specs.declared.facts.CycleStat.{CycleStat}
use Rattle.cq_stat.specs.declared.facts.CycleState.{CycleState}
use Rattle.cq_stat.specs.declared.facts.CycleState.TheVariants.{Dropped, Ended, Open}
use Rattle.cq_stat.specs.declared.facts.QueueStat.{QueueStat}
use Rattle.cq_model.specs.Readable.{readable}

-- a cycle below the floor is dropped, the last one is open, and every other one has ended
abbrev pub state_of : ℕ → ℕ → ℕ → CycleState
state_of floor last cycle = if nat_lt cycle floor then Dropped else (if cycle == last then Open else Ended)

-- the cells that the messages of a cycle use, with the one that is kept for the end of data
abbrev pub cells_used : Settings → CycleList → ℕ
cells_used settings l = needs settings.layout (map length l.messages) + 1

-- the numbers of a cycle of this state
abbrev pub facts_with : Settings → CycleList → CycleState → CycleFacts
facts_with settings l state = record {
  number = l.cycle;
  messages = length l.messages;
  bytes = sum (map length l.messages);
  cells_used = cells_used settings l;
  cells_left = settings.layout.cells - cells_used settings l;
  state = state;
}

-- the numbers of a cycle of a queue that holds this
abbrev pub facts_of : Settings → Contents → CycleList → CycleFacts
facts_of settings contents l = facts_with settings l (state_of contents.floor (last_cycle contents.lists) l.cycle)

-- the name is that of the cycle with this number
abbrev pub IsNamed : Settings → CycleStat → Type 0
IsNamed settings cycle = IsName settings.roll settings.epoch cycle.facts.number (string_bytes cycle.name)

-- what is held with this floor
abbrev pub with_floor : Contents → ℕ → Contents
with_floor contents floor = contents_from contents.lists contents.positions floor

-- how many of the messages that reads look at have an index that is not below a position
abbrev pub left_from : Contents → ℕ → ℕ
left_from contents position = length (filter (λ found. nat_le position found.0) (readable contents))

-- how many messages of a cycle have an index that is not below a place
abbrev pub left_in : ℕ → CycleList → ℕ
left_in place l = length l.messages - (place - index_of l.cycle 0)

-- the index of the first message that reads look at
abbrev pub first_index : Contents → Option ℕ
first_index contents = option_map (λ found. found.0) (first_in contents.lists (index_of contents.floor 0))

-- this is said of a queue with these settings that holds this
pub record IsStat (settings : Settings) (contents : Contents) (stat : QueueStat) : Type 0 where
  pub config : stat.config ≡ settings
  pub cycles : map (λ cycle. cycle.facts) stat.cycles.items ≡ map (facts_of settings contents) contents.lists
  pub named : All (IsNamed settings) stat.cycles.items
  pub first : stat.first ≡ first_index contents
  pub floor : stat.floor ≡ contents.floor
  pub end : stat.end ≡ end_of contents.lists
  pub more_cycles : stat.more_cycles ≡ settings.cycles - length contents.lists
  pub names : map (λ name. string_bytes name.name) stat.names.items ≡ settings.names
  pub positions : map (λ name. name.position) stat.names.items ≡ contents.positions
  pub messages_left : All (λ name. name.messages_left ≡ left_from contents name.position) stat.names.items
