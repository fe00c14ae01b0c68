pub mod First
pub mod Writers
