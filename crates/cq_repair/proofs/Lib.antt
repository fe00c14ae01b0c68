mod EndLemmas
mod FindLemmas
mod LineLemmas
mod SaveLemmas
mod PlanLemmas
pub mod OpenLemmas
