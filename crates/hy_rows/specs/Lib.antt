pub mod State
pub mod Cases
