pub mod Rest
pub mod Words
pub mod Cases
