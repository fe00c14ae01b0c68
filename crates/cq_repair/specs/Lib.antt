pub mod Found
pub mod Kept
pub mod Opens
pub mod Plans
pub mod Repairs
