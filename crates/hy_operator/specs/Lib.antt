pub mod Kinds
pub mod Begins
pub mod Laws
pub mod Cases
