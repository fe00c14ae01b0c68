pub mod Races
pub mod Workers
