-- What `init` makes of its settings.
use Rattle.std.specs.Prelude.{◌≡◌, ◌⊎◌, ⊤, ℕ, List, length, replicate, Option, IfSome, string_bytes}
use Rattle.cq_layout.specs.Shape.{Measures, measures}
use Rattle.cq_cycle.specs.declared.roll.Roll.{Roll}
use Rattle.cq_cycle.specs.RollWord.{roll_word}
use Rattle.cq_model.specs.Settings.{IsLawfulSettings, Settings, new_settings, texts}
use Rattle.cq_config_text.specs.ConfigText.{IsTextOf}
use Rattle.cq_folder.specs.Folder.{Files}
use Rattle.cq_folder.specs.declared.names.TheConstants.{CONFIG_FILE}
use Rattle.cq_text.specs.declared.fault.ToolFault.{ToolFault}
use Rattle.cq_text.specs.declared.fault.ToolFault.TheVariants.{BadConfig, FolderFault, OutOfMemory, QueueThereAlready}
use Rattle.cq_settings.specs.declared.settings.InitSettings.{InitSettings}
use Rattle.cq_files.specs.FolderFaults.{HoldsConfig, IsFileFault, IsLimitFault, IsSaveFault}

-- the measures that were asked for
abbrev pub wanted_shape : InitSettings → Measures
wanted_shape wanted = measures wanted.cells wanted.index_count wanted.index_spacing

-- the settings of a new queue that were asked for, with this roll
abbrev pub wanted_settings : InitSettings → Roll → Settings
wanted_settings wanted roll = new_settings (wanted_shape wanted) wanted.cycles roll wanted.epoch (texts wanted.names.items)

-- the text says what was asked for, which is lawful, each name stands at 0, and so does the floor
pub record IsTextFor (wanted : InitSettings) (roll : Roll) (text : List ℕ) : Type 0 where
  pub lawful : IsLawfulSettings (wanted_settings wanted roll)
  pub spelled : IsTextOf (wanted_settings wanted roll) (replicate (length wanted.names.items) 0) 0 text

-- so it does with the roll that has the word
pub record IsInitialText (wanted : InitSettings) (text : List ℕ) : Type 0 where
  pub roll : Roll
  pub known : string_bytes wanted.roll ≡ roll_word roll
  pub text_is : IsTextFor wanted roll text

-- the word names a roll
abbrev pub NamesRoll : List ℕ → Type 0
NamesRoll word = (roll : Roll) × (word ≡ roll_word roll)

-- why a folder is not found new: it is not listed, or it has a queue
abbrev pub IsListingFault : Option Files → ToolFault → Type 0
IsListingFault files OutOfMemory = ⊤
IsListingFault files FolderFault = ⊤
IsListingFault files QueueThereAlready = IfSome files HoldsConfig
IsListingFault files _ = ⊥

-- the folder is new
abbrev pub IsNew : Option Files → Type 0
IsNew files = IfSome files (λ held. ¬ HoldsConfig held)

-- why no queue is made in a new folder: the settings are refused, or they are lawful and the file is at fault
abbrev pub IsMakingFault : InitSettings → Roll → ToolFault → Type 0
IsMakingFault wanted roll fault = IsLimitFault (wanted_settings wanted roll) fault
    ⊎ (IsLawfulSettings (wanted_settings wanted roll) × IsFileFault CONFIG_FILE.now fault × IsSaveFault fault)

-- why no queue is made: no roll has the word; else the folder is not found new; else it is, and the settings or the file are
-- at fault
abbrev pub IsInitFault : InitSettings → Option Files → ToolFault → Type 0
IsInitFault wanted files fault = ((fault ≡ BadConfig) × ¬ NamesRoll (string_bytes wanted.roll))
    ⊎ ((roll : Roll) × (string_bytes wanted.roll ≡ roll_word roll)
    × (IsListingFault files fault ⊎ (IsNew files × IsMakingFault wanted roll fault)))
