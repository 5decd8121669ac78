pub mod Opens
pub mod Fitting
pub mod Cases
