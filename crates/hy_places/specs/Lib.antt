pub mod Places
pub mod Owned
pub mod Finding
pub mod Cases
