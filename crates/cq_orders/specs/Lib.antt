pub mod OrderFolder
