pub mod Changes
pub mod Stays
