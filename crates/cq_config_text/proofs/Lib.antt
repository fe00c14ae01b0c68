pub mod ConfigLemmas
pub mod CutLemmas
pub mod FaultLemmas
pub mod FloorLemmas
pub mod LineLemmas
pub mod SpellingLemmas
pub mod TextLemmas
pub mod WordLemmas
