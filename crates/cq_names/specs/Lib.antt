pub mod Edits
pub mod Left
pub mod Names
