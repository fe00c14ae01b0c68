pub mod Lines
pub mod Input
pub mod Echo
pub mod CycleLine
pub mod DumpText
pub mod Faults
pub mod Output
pub mod SalvageText
