pub mod CalendarLemmas
pub mod CycleLemmas
pub mod NameLemmas
