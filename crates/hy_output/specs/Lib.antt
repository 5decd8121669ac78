pub mod Keeper
pub mod Ways
pub mod Outputs
pub mod Cases
