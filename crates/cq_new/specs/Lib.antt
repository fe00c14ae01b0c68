pub mod Line
pub mod Made
