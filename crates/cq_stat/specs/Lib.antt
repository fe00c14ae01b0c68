pub mod Facts
pub mod StatText
pub mod StatJson
pub mod StatOut
pub mod StatFaults
