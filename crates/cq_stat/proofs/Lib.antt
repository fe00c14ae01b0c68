pub mod LeftLemmas
pub mod FoundLemmas
pub mod OpenLemmas
pub mod StepLemmas
