pub mod FollowingLemmas
pub mod LookLemmas
pub mod WaitingLemmas
