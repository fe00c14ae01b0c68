pub mod PointLemmas
