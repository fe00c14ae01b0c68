-- The faults of a program that others become, and those of the device.
use Rattle.std.specs.Prelude.{⊤}
use Rattle.cq_config_text.specs.declared.config_fault.ConfigFault.{ConfigFault}
use Rattle.cq_config_text.specs.declared.config_fault.ConfigFault.TheVariants as config
use Rattle.cq_text.specs.declared.fault.ToolFault.{ToolFault}
use Rattle.cq_text.specs.declared.fault.ToolFault.TheVariants.{BadConfig, BadShape, ConfigLine, FileFault, FolderFault, OutOfMemory}

-- the fault of a text of `queue.cqc`
abbrev pub config_fault : ConfigFault → ToolFault
config_fault config.OutOfMemory = OutOfMemory
config_fault (config.Line number) = ConfigLine number
config_fault config.BadShape = BadShape
config_fault config.BadConfig = BadConfig

-- a fault of the device
abbrev pub IsDeviceFault : ToolFault → Type 0
IsDeviceFault FolderFault = ⊤
IsDeviceFault (FileFault file) = ⊤
IsDeviceFault _ = ⊥
