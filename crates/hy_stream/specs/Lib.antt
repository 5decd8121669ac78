pub mod Places
pub mod Work
pub mod Stream
pub mod Source
pub mod Unnest
pub mod Cases
