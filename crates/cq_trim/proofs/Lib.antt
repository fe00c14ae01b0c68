pub mod KeptLemmas
pub mod HoldLemmas
pub mod PlanLemmas
pub mod EndLemmas
