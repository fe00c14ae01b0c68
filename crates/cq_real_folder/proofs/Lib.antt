pub mod FaultLemmas
pub mod ListingLemmas
pub mod NamingLemmas
pub mod PartLemmas
pub mod ReadLemmas
pub mod RecordLemmas
