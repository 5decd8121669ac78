pub mod DistinctLaws
pub mod Finding
