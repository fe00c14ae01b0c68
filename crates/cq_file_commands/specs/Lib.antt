pub mod CheckText
pub mod Dumped
pub mod Salvaged
pub mod Shown
pub mod Initialised
pub mod Migrated
pub mod FileFaults
