pub mod Queue
pub mod FolderFaults
pub mod Openable
pub mod Saved
pub mod Counted
pub mod Looking
pub mod Saving
pub mod Printing
