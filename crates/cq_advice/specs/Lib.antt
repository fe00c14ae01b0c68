pub mod Advice
pub mod Seen
