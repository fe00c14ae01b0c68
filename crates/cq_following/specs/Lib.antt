pub mod Times
pub mod Following
pub mod Waiting
