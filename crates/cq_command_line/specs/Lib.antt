pub mod CommandLine
pub mod Faults
pub mod OrderValues
pub mod Parsed
