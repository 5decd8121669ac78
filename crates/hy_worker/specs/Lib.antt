pub mod Worker
pub mod Calls
pub mod Laws
pub mod Cases
