pub mod Copies
pub mod Cycles
pub mod Names
pub mod Rolls
