pub mod Joined
pub mod Work
pub mod Aggregate
pub mod Cases
