pub mod NameLemmas
pub mod LeftLemmas
pub mod FolderLemmas
pub mod EndLemmas
