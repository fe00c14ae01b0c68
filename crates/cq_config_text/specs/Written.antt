-- What a queue is to be, before any limit.
use Rattle.std.specs.Prelude.{ℕ, List}
use Rattle.cq_layout.specs.Layout.{CycleLayout, layout_in}
use Rattle.cq_layout.specs.Shape.{measures}
use Rattle.cq_model.specs.Settings.{Settings, settings_of}
use Rattle.cq_origin.specs.Origins.{origin_of}
use Rattle.cq_layout.specs.Version.{store_in}
use Rattle.cq_config_text.specs.declared.wanted.WantedConfig.{WantedConfig}

-- its layout
abbrev pub wanted_layout : WantedConfig → CycleLayout
wanted_layout wanted =
    layout_in (store_in wanted.version (origin_of wanted.roll wanted.epoch))
    (measures wanted.cells wanted.index_count wanted.index_spacing)

-- these settings, with these names
abbrev pub settings_in : WantedConfig → List (List ℕ) → Settings
settings_in wanted names = settings_of (wanted_layout wanted) wanted.cycles wanted.roll wanted.epoch names
