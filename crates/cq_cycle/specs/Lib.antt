pub mod Cycle
pub mod Index
pub mod Name
pub mod RollWord
