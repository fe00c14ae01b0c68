pub mod FailingFile
pub mod MemoryFile
