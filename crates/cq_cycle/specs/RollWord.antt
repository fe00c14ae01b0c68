-- The words that name the rolls.
use Rattle.std.specs.Prelude.{ℕ, List, codes}
use Rattle.cq_cycle.specs.declared.roll.Roll.{Roll}
use Rattle.cq_cycle.specs.declared.roll.Roll.TheVariants.{Daily, Hourly, Minutely}

-- how a roll is written
abbrev pub roll_word : Roll → List ℕ
roll_word Daily = codes "daily"
roll_word Hourly = codes "hourly"
roll_word Minutely = codes "minutely"
