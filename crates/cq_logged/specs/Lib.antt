pub mod Faults
pub mod Logged
pub mod Reasons
