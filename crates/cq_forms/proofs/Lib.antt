pub mod NameLemmas
pub mod JsonLemmas
