pub mod Place
pub mod Record
