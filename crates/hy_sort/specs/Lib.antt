pub mod Build
pub mod Emit
pub mod Laws
pub mod Cases
