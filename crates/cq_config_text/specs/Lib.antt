pub mod ConfigFault
pub mod ConfigText
pub mod Written
