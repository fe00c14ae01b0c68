pub mod Words
pub mod Floors
pub mod Trimmed
pub mod Plans
pub mod Trims
