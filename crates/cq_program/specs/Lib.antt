pub mod Reads
pub mod Starts
pub mod Statuses
